-- What the loop over the rates keeps: the rates from i on are filled in, and the upkeep of period i is at hand, 0 past the last.
-- Assumes nothing.
use Rattle.std.proofs.Common.{◌≡◌, List, ℕ, ◌≤◌, ◌<◌, length}
use Rattle.day.specs.Sums.{at}
use Rattle.theory.specs.Net.{rate_of}

-- the rates from i on are filled in
pub record Filling (holding rates : List ℕ) (next i : ℕ) : Type 0 where
  pub inside : i ≤ length holding
  pub size : length rates ≡ length holding
  pub is : next ≡ at holding i
  pub each : (k : ℕ) → i ≤ k → k < length holding → at rates k ≡ rate_of holding k
