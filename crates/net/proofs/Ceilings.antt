-- What the loop over the ceilings keeps: R of the periods passed, whose ceilings are filled in. Assumes nothing.
use Rattle.std.proofs.Common.{◌≡◌, List, ℕ, ◌*◌, ◌≤◌, ◌<◌, length}
use Rattle.day.specs.Sums.{Term, at}
use Rattle.day.specs.Day.{Day, periods, demand_to, max_capacity}
use Rattle.theory.specs.Store.{ceiling_at}

-- i periods are filled in
pub record Filling (d : Day) (ceilings : List ℕ) (demanded i : ℕ) : Type 0 where
  pub inside : i ≤ periods d
  pub sum : Term (demand_to d i) (max_capacity * i) demanded
  pub size : length ceilings ≡ periods d
  pub each : (k : ℕ) → k < i → at ceilings k ≡ ceiling_at d k
