-- The full path between its tests and the clearing of its areas. Main definitions: `Workable`, `PlanLeft`. Assumes nothing.
use Rattle.std.specs.Prelude.{◌≡◌, List, ℕ, length}
use Rattle.day.specs.Sums.{at}
use Rattle.theory.specs.Model.{OptimalTo}
use Rattle.theory.specs.Problem.{Problem, periods, total, model_within}
use Rattle.full_table.specs.Table.{Fillable}

-- what tests 1 to 7 and 14 leave of the needed cells, where T is N over all periods, and a slot for each period
pub record Workable (p : Problem) (ceilings : List ℕ) (T : ℕ) (costs choices slots : List ℕ) : Type 0 where
  pub fillable : Fillable p ceilings costs choices T
  pub each : length slots ≡ periods p

-- the slots hold the plan
abbrev pub PlanLeft : Problem → (ceilings slots : List ℕ) → Type 0
PlanLeft p ceilings slots = OptimalTo (model_within p ceilings) (periods p) (total p) (at slots)
