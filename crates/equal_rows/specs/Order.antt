-- Which of two plans of n periods goes first, by their costs and then by their amounts. Assumes nothing.
use Rattle.std.specs.Prelude.{◌≡◌, Bool, true, false, ℕ, ◌≤◌}
use Rattle.std.proofs.Common.{arith}
use Rattle.day.specs.Plan.{Smaller}

-- what the answer to "is x the smaller?" says
abbrev pub Ordered : ℕ → (ℕ → ℕ) → (ℕ → ℕ) → Bool → Type 0
Ordered n x y true = Smaller n x y
Ordered n x y false = Smaller n y x

-- x at cost v is cheaper than y at cost w; or costs as much, and is the smaller
pub record Sooner (n v : ℕ) (x : ℕ → ℕ) (w : ℕ) (y : ℕ → ℕ) : Type 0 where
  pub cheap : v ≤ w
  pub small : v ≡ w → Smaller n x y

-- what the answer to "does x go first?" says
abbrev pub Decided : ℕ → ℕ → (ℕ → ℕ) → ℕ → (ℕ → ℕ) → Bool → Type 0
Decided n v x w y true = Sooner n v x w y
Decided n v x w y false = Sooner n w y v x

-- of two that cost the same the smaller goes first
pub decided_tie : (n v : ℕ) (x : ℕ → ℕ) (w : ℕ) (y : ℕ → ℕ) (r : Bool) → v ≡ w → Ordered n x y r → Decided n v x w y r
decided_tie n v x w y true e o = record { cheap = omega arith; small = λ _. o }
decided_tie n v x w y false e o = record { cheap = omega arith; small = λ _. o }
