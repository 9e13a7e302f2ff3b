-- What `solve` asks and leaves. Main definitions: `Solvable`, `Solved`. Assumes nothing.
use Rattle.std.specs.Prelude.{◌≡◌, Some, ◌≤◌, length, drop}
use Rattle.day.specs.Sums.{at}
use Rattle.day.specs.Day.{max_periods}
use Rattle.day.specs.Outcome.{Memory, cleared}
use Rattle.theory.specs.Problem.{Problem, periods, model_of, Supplied}
use Rattle.theory.specs.FreeSetups.{Free}
use Rattle.theory.specs.Batches.{greedy}

-- tables of one length, no setup cost, no period short, a cost cell and a slot for each period
pub record Solvable (p : Problem) (m : Memory) : Type 0 where
  pub few : periods p ≤ max_periods
  pub capacities : length p.capacity ≡ periods p
  pub units : length p.unit ≡ periods p
  pub holdings : length p.holding ≡ periods p
  pub unpaid : Free (model_of p) (periods p)
  pub supplied : Supplied p
  pub cost_cells : periods p ≤ length m.costs
  pub room : periods p ≤ length m.slots

-- the slots hold what the greedy rule gives; n cost cells are free, and all else is as it was
pub record Solved (p : Problem) (before after : Memory) : Type 0 where
  pub slots : greedy (model_of p) (periods p) (at p.demand) (cleared (periods p) before.slots) ≡ Some after.slots
  pub costs : drop (periods p) after.costs ≡ drop (periods p) before.costs
