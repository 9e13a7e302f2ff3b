-- The table of recursion (5) for a problem under ceilings U, one a period: what its two loops ask and leave.
-- Main definitions: `Fillable` and `TableFilled`, `Traceable` and `plan_read`. Assumes nothing.
use Rattle.std.specs.Prelude.{◌≡◌, List, ℕ, zero, suc, ◌+◌, ◌-◌, ◌*◌, ◌≤◌, ◌<◌, min, length}
use Rattle.day.specs.Sums.{at}
use Rattle.day.specs.Day.{max_total}
use Rattle.theory.specs.Reachable.{high, Covered}
use Rattle.theory.specs.Full.{amount, back}
use Rattle.theory.specs.Problem.{Problem, periods, demand_to, total, model_within}
use Rattle.full_rows.specs.declared.Stage.{Stage}

-- period i + 1 as a stage, where the totals from `low` to `most` can be reached before it, and no more than its ceiling may be after it
abbrev pub stage_at : Problem → (ceilings : List ℕ) → (i low most : ℕ) → Stage
stage_at p U i low most = record {
  capacity = at p.capacity i;
  setup = at p.setup i;
  unit = at p.unit i;
  holding = at p.holding i;
  low = low;
  high = most;
  floor = low + at p.demand i;
  top = min (most + at p.capacity i) (at U i);
}

-- i is one of the periods, and no total that can be reached before it is above the limit
pub record Staged (p : Problem) (i low most : ℕ) : Type 0 where
  pub inside : i < periods p
  pub low_small : low ≤ max_total
  pub high_small : most ≤ max_total

-- X can be reached in i periods
pub record Reachable (p : Problem) (U : List ℕ) (i X : ℕ) : Type 0 where
  pub low : demand_to p i ≤ X
  pub high : X ≤ high (model_within p U) i

-- the cell of row k and total X, in rows for the totals up to T
abbrev pub cell_at : List ℕ → (T k X : ℕ) → ℕ
cell_at cells T k X = at cells (k * (T + 1) + X)

-- N can be reached under the ceilings in every period, T is N over all periods, no ceiling is above it, and both areas are long enough
pub record Fillable (p : Problem) (U costs choices : List ℕ) (T : ℕ) : Type 0 where
  pub covered : Covered (model_within p U) (periods p)
  pub is : T ≡ total p
  pub under : (k : ℕ) → k < periods p → at U k ≤ T
  pub cost_cells : 2 * (T + 1) ≤ length costs
  pub choice_cells : periods p * (T + 1) ≤ length choices

-- the choices are those of recursion (5)
pub record TableFilled (p : Problem) (U : List ℕ) (T : ℕ) (choices : List ℕ) : Type 0 where
  pub amounts : (k X : ℕ) → k < periods p → Reachable p U (suc k) X → cell_at choices T k X ≡ amount (model_within p U) k X

-- no amount on the way back from X is above what is left
abbrev pub Traced : (ℕ → ℕ → ℕ) → ℕ → ℕ → Type 0
Traced ch zero X = Unit {0}
Traced ch (suc k) X = (ch k X ≤ X) × Traced ch k (X - ch k X)

-- choices are there for n periods, and the way back from T can be walked
pub record Traceable (choices : List ℕ) (n T : ℕ) : Type 0 where
  pub small : T ≤ max_total
  pub choice_cells : n * (T + 1) ≤ length choices
  pub traced : Traced (cell_at choices T) n T

-- the plan of n periods that the choices say
abbrev pub plan_read : List ℕ → (n T : ℕ) → List ℕ
plan_read choices n T = back (cell_at choices T) n T
