-- The store limit of a day: a ceiling on what may have been made, and days whose stores can't bind.
-- Main definitions: `ceilings_of`, `store_model`, `Loose`. What holds of them is in proofs/Store. Assumes nothing.
use Rattle.std.specs.Prelude.{List, ℕ, suc, ◌+◌, ◌-◌, ◌≤◌, ◌<◌, min}
use Rattle.day.specs.Sums.{at, list_of}
use Rattle.day.specs.Day.{Day, periods, demand_to, required, total}
use Rattle.theory.specs.Model.{Model}
use Rattle.theory.specs.Problem.{model_within}
use Rattle.theory.specs.Net.{problem_of, Fits}

-- the most that may have been made after period k + 1: R + s − A, and never more than T
abbrev pub ceiling_at : Day → ℕ → ℕ
ceiling_at d k = min (total d) (demand_to d (suc k) + at d.store k - d.opening)

abbrev pub ceilings_of : Day → List ℕ
ceilings_of d = list_of (ceiling_at d) (periods d)

-- the model of a day under its store limits. Where A is above R + s the ceiling is cut off at 0: such a day test 7 refuses
abbrev pub store_model : Day → Model
store_model d = model_within (problem_of d) (ceilings_of d)

-- what tests 1, 14 and 16 leave: every store takes R + Z
pub record Loose (d : Day) : Type 0 where
  pub fits : Fits d
  pub takes : (k : ℕ) → k < periods d → required d ≤ at d.store k
