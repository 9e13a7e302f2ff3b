-- The greedy rule as a loop computes it, and what it has to give. Main definitions: `greedy`, `Solves`. That it does is in proofs/Batches. Assumes nothing.
use Rattle.std.specs.Prelude.{◌≡◌, List, ℕ, suc, ◌+◌, ◌≤◌, ◌<◌, length, drop, Option, None, Some}
use Rattle.day.specs.Sums.{at}
use Rattle.theory.specs.Model.{Model, FeasibleTo, OptimalTo}
use Rattle.theory.specs.Greedy.{greedy_to}
use Rattle.theory.specs.FreeSetups.{key}

-- what each period adds to what must have been made
abbrev pub Adds : Model → ℕ → (ℕ → ℕ) → Type 0
Adds M n need = (k : ℕ) → k < n → M.floor k + need k ≡ M.floor (suc k)

-- so many slots at least, the first n of them 0
pub record Fresh (n : ℕ) (slots : List ℕ) : Type 0 where
  pub long : n ≤ length slots
  pub zeros : (k : ℕ) → k < n → at slots k ≡ 0

-- The amounts g are the plan, in the first n of the slots, and the others are unchanged.
pub record Filled (M : Model) (n : ℕ) (slots g : List ℕ) : Type 0 where
  pub each : length g ≡ length slots
  pub rest : drop n g ≡ drop n slots
  pub optimal : OptimalTo M n (M.floor n) (at g)

-- what the rule has to give: the plan, or nothing, and then no amounts keep the rules
abbrev pub Solves : Model → ℕ → List ℕ → Option (List ℕ) → Type 0
Solves M n slots None = (y : ℕ → ℕ) → FeasibleTo M n (M.floor n) y → ⊥
Solves M n slots (Some g) = Filled M n slots g

unfoldable pub greedy : Model → ℕ → (need : ℕ → ℕ) → List ℕ → Option (List ℕ)
greedy M n need slots = greedy_to (key M n) M.capacity need n slots
