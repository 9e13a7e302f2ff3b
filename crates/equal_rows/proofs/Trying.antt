-- What the loop of `row` keeps, and its steps. Main statements: `next_try`, `all_tried`. Assumes nothing.
use Rattle.std.proofs.Common.{◌≡◌, refl, ap, ℕ, suc, ◌+◌, ◌-◌, ◌*◌, ◌≤◌, ◌<◌, add-one, arith}
use Rattle.std.proofs.Math.Nat.{mul-le-mul_right}
use Rattle.std.proofs.Math.ListN.{set}
use Rattle.std.proofs.Math.Seq.{take-set-le}
use Rattle.day.specs.Sums.{at, sum_grows}
use Rattle.theory.specs.Problem.{Problem, periods, demand_to}
use Rattle.equal_runs.specs.Bounds.{marker}
use Rattle.equal_rows.specs.Rows.{Areas, areas, EarlierKept}
use Rattle.equal_rows.specs.Best.{PlanRow, kept_trans, row_kept}
use Rattle.equal_rows.specs.Consider.{ConstantCapacity, Considered, RowFound, all_considered}

module _ (p : Problem) (c m : ℕ) where
  -- row m is marked
  abbrev pub marked : Areas → Areas
  marked a = areas (set a.costs m marker) a.choices

  -- what stands before it is as it was
  pub marked_kept : (a : Areas) → EarlierKept (periods p) m a (marked a)
  marked_kept a = record { costs = take-set-le m a.costs m marker (omega arith); choices = refl }

  pub next_try : (l l' : ℕ) (a b d : Areas) → Considered p c m l a b → Considered p c m l' b d → Considered p c m l' a d
  next_try l l' a b d u v = record { kept = kept_trans u.kept v.kept; best = v.best }

  pub row_now : (l : ℕ) (a b : Areas) → l < m → m ≤ periods p → Considered p c m l (marked a) b → PlanRow p l a → PlanRow p l b
  row_now l a b h g u =
      row_kept p l m (m * periods p) a b (kept_trans (marked_kept a) u.kept) h (omega (arith, mul-le-mul_right (periods p) h))

  pub all_tried : (l : ℕ) (a b : Areas) → ConstantCapacity p c → 0 < m → m ≤ periods p → l ≡ m
      → Considered p c m l (marked a) b → RowFound p m a b
  all_tried l a b constant pos h e u =
      let f = all_considered p c constant m pos h (marked a) b (rw e at u) in
      record { kept = kept_trans (marked_kept a) f.kept; row = f.row }

  -- what is left to make from l + 1 on
  pub less_left : (l left : ℕ) → l < m → left ≡ demand_to p m - demand_to p l
      → (at p.demand l ≤ left) × (left - at p.demand l ≡ demand_to p m - demand_to p (l + 1))
  less_left l left h e =
      let g = sum_grows (at p.demand) (suc l) m h in
      let f = ap (demand_to p) (add-one l) in
      (omega arith, omega arith)

-- the candidates before l are tried
pub record Trying (p : Problem) (c m : ℕ) (old new : Areas) (left l : ℕ) : Type 0 where
  pub rest : left ≡ demand_to p m - demand_to p l
  pub tried : Considered p c m l old new
