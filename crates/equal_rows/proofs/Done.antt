-- What the loop of `rows` keeps, and one row more. Assumes nothing.
use Rattle.std.proofs.Common.{◌≡◌, ℕ, ◌+◌, ◌*◌, ◌≤◌, ◌<◌, ⊎_elim, eq-or-lt_of_le, arith}
use Rattle.std.proofs.Math.Nat.{mul-le-mul_right}
use Rattle.theory.specs.Problem.{Problem, periods, demand_to}
use Rattle.equal_rows.specs.Rows.{Areas}
use Rattle.equal_rows.specs.Best.{PlanRow, row_kept}
use Rattle.equal_rows.specs.Consider.{RowFound}

-- one row more
pub row_more : (p : Problem) (m : ℕ) (a b : Areas) → m < periods p → ((k : ℕ) → k < m + 1 → PlanRow p k a) → RowFound p (m + 1) a b
    → (k : ℕ) → k < m + 1 + 1 → PlanRow p k b
row_more p m a b h rows found k g =
    ⊎_elim
    (λ (e : k ≡ m + 1). rw e found.row)
    (λ (l : k < m + 1). row_kept p k (m + 1) ((m + 1) * periods p) a b found.kept l (omega (arith, mul-le-mul_right (periods p) l)) (rows k l))
    (eq-or-lt_of_le (omega arith))

-- the rows up to m are found
pub record RowsDone (p : Problem) (new : Areas) (need m : ℕ) : Type 0 where
  pub demanded : need ≡ demand_to p m
  pub low : need ≤ m * 65536
  pub rows : (k : ℕ) → k < m + 1 → PlanRow p k new
