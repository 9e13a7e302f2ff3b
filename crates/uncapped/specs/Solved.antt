-- What `solve` asks and leaves. Main definitions: `Solvable`, `Solved`. Assumes nothing.
use Rattle.std.specs.Prelude.{◌≡◌, ◌++◌, ◌+◌, ◌≤◌, length, drop}
use Rattle.day.specs.Outcome.{Memory}
use Rattle.theory.specs.Problem.{Problem, periods, model_of}
use Rattle.theory.specs.WagnerWhitin.{wagner_whitin}
use Rattle.uncapped_rows.specs.Rows.{FillReady}

-- a cell of both areas for each row, and a slot for each period
pub record Solvable (p : Problem) (m : Memory) : Type 0 where
  pub ready : FillReady p m.costs m.choices
  pub room : periods p ≤ length m.slots

-- the first n slots hold the plan of the last row; the cells of the rows are free, and all else is as it was
pub record Solved (p : Problem) (before after : Memory) : Type 0 where
  pub slots : after.slots ≡ (wagner_whitin (model_of p) (periods p)).plan ++ drop (periods p) before.slots
  pub costs : drop (periods p + 1) after.costs ≡ drop (periods p + 1) before.costs
  pub choices : drop (periods p + 1) after.choices ≡ drop (periods p + 1) before.choices
