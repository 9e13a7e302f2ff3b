-- One trial of a big day. Main definitions: `Triable`, what a trial asks; `Comes`, what it comes to. Assumes nothing.
use Rattle.std.specs.Prelude.{◌≡◌, Option, Some, None, List, ℕ, ◌≤◌, ◌<◌, length}
use Rattle.day.specs.Sums.{at}
use Rattle.day.specs.Day.{Day, periods}
use Rattle.day.specs.Plan.{cost}
use Rattle.day.specs.Drops.{starts_free, Ruled}

-- a capacity for every period, no higher than the day's own, and a slot
pub record Triable (d : Day) (allowances plan : List ℕ) : Type 0 where
  pub each : length allowances ≡ periods d
  pub low : (k : ℕ) → k < periods d → at allowances k ≤ at d.capacity k
  pub size : length plan ≡ periods d

-- the greedy rule, starts taken as free, finds no plan under the capacities that are allowed; or it finds this one, which costs c, starts included
abbrev pub Comes : Day → (allowances : List ℕ) → Option ℕ → (plan : List ℕ) → Type 0
Comes d allowances None plan = Ruled (starts_free allowances d) None
Comes d allowances (Some c) plan = Ruled (starts_free allowances d) (Some plan) × (c ≡ cost d (at plan))
