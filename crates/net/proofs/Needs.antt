-- What the loop over the net needs keeps: R and what must have been made of the periods passed, whose net needs are filled in.
-- Assumes nothing.
use Rattle.std.proofs.Common.{◌≡◌, List, ℕ, ◌*◌, ◌≤◌, ◌<◌, length}
use Rattle.day.specs.Sums.{Term, at}
use Rattle.day.specs.Day.{Day, periods, demand_to, net_to, max_capacity}
use Rattle.theory.specs.Net.{net_need}

-- i periods are filled in
pub record Filling (d : Day) (net : List ℕ) (demanded made i : ℕ) : Type 0 where
  pub inside : i ≤ periods d
  pub sum : Term (demand_to d i) (max_capacity * i) demanded
  pub is : made ≡ net_to d i
  pub size : length net ≡ periods d
  pub each : (k : ℕ) → k < i → at net k ≡ net_need d k
