-- Sums compared term by term.
-- Main statements: `sum_le`, `sum_lt`, `sum_other`, `sum_same`. Assumes nothing.
use Rattle.std.specs.Prelude.{◌≡◌, ◌≢◌, ℕ, zero, suc, ◌+◌, ◌-◌, ◌≤◌, ◌<◌}
use Rattle.std.proofs.Common.{ap, ⊎_elim, eq-or-lt_of_le, le_of_suc-le-suc, arith}
use Rattle.std.proofs.Math.Decide.{dec_lt, ℕ_discrete}
use Rattle.day.specs.Sums.{sum_to}

-- no term larger, and so no larger sum
pub sum_le : (f g : ℕ → ℕ) (n : ℕ) → ((k : ℕ) → k < n → f k ≤ g k) → sum_to f n ≤ sum_to g n
sum_le f g zero h = omega arith
sum_le f g (suc n) h = omega (arith, sum_le f g n (λ k l. h k (omega arith)), h n (omega arith))

-- a smaller one if a term is smaller
pub sum_lt : (f g : ℕ → ℕ) (j n : ℕ) → j < n → ((k : ℕ) → k < n → f k ≤ g k) → f j < g j → sum_to f n < sum_to g n
sum_lt f g j zero l h s = absurd (omega arith)
sum_lt f g j (suc n) l h s =
    ⊎_elim
    (λ (e : j ≡ n). let s' : f n < g n = rw e at s in omega (arith, sum_le f g n (λ k q. h k (omega arith))))
    (λ (q : j < n). omega (arith, sum_lt f g j n q (λ k r. h k (omega arith)) s, h n (omega arith)))
    (eq-or-lt_of_le (le_of_suc-le-suc l))

-- the terms are alike if it is no smaller
pub sum_same : (f g : ℕ → ℕ) (n : ℕ) → ((k : ℕ) → k < n → f k ≤ g k) → sum_to g n ≤ sum_to f n → (k : ℕ) → k < n → f k ≡ g k
sum_same f g n h s k l = go (dec_lt (f k) (g k))
  where
    go : Dec (f k < g k) → f k ≡ g k
    go (yes q) = absurd (omega (arith, sum_lt f g k n l h q))
    go (no q) = omega (arith, h k l)

-- where a sum is smaller, so is some term
sum_find : (f g : ℕ → ℕ) (n : ℕ) → sum_to f n < sum_to g n → (j : ℕ) × (j < n) × (f j < g j)
sum_find f g zero l = absurd (omega arith)
sum_find f g (suc n) l = go (dec_lt (f n) (g n)) (λ s. sum_find f g n s)
  where
    go : Dec (f n < g n) → (sum_to f n < sum_to g n → (j : ℕ) × (j < n) × (f j < g j)) → (j : ℕ) × (j < suc n) × (f j < g j)
    go (yes h) old = (n, omega arith, h)
    go (no h) old = let r = old (omega arith) in (r.0, omega (arith, r.1), r.2)

-- and some term but k, where it is smaller by more than that one
pub sum_other : (f g : ℕ → ℕ) (k n : ℕ) → sum_to f n + (g k - f k) < sum_to g n → (j : ℕ) × (j < n) × (j ≢ k) × (f j < g j)
sum_other f g k zero l = absurd (omega arith)
sum_other f g k (suc n) l = go (dec_lt (f n) (g n)) (ℕ_discrete n k) (λ s. sum_other f g k n s)
  where
    go : Dec (f n < g n) → Dec (n ≡ k) → (sum_to f n + (g k - f k) < sum_to g n → (j : ℕ) × (j < n) × (j ≢ k) × (f j < g j))
        → (j : ℕ) × (j < suc n) × (j ≢ k) × (f j < g j)
    go (yes h) (no a) old = (n, omega arith, a, h)
    go (yes h) (yes e) old =
        let r = sum_find f g n (omega (arith, ap f e, ap g e)) in (r.0, omega (arith, r.1), omega (arith, r.1, e), r.2)
    go (no h) d old = let r = old (omega arith) in (r.0, omega (arith, r.1), r.2, r.3)
