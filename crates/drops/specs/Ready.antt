-- A day that is ready for trials. Main definition: `IsReady`. Assumes nothing.
use Rattle.std.specs.Prelude.{◌≡◌, List, ℕ, ◌≤◌, ◌<◌, length}
use Rattle.day.specs.Sums.{at}
use Rattle.day.specs.Day.{Day, periods, max_big_total}
use Rattle.checks.specs.Passed.{DayLimits}
use Rattle.theory.specs.Net.{net_needs, rates_of}
use Rattle.theory.specs.Store.{Loose}
use Rattle.theory.specs.Greedy.{key_of}

-- a day within the limits of big days whose stores can't bind; its net needs; a key for every period
pub record IsReady (d : Day) (net cells : List ℕ) : Type 0 where
  pub limits : DayLimits max_big_total d
  pub loose : Loose d
  pub needs : net ≡ net_needs d
  pub long : periods d ≤ length cells
  pub keys : (k : ℕ) → k < periods d → at cells k ≡ key_of (at d.unit) (at (rates_of d.holding)) (periods d) k
