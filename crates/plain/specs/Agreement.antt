-- When a path's answer agrees with what the plain search found. Main definition: `Agreement`. Assumes nothing.
use Rattle.std.specs.Prelude.{◌≡◌, if◌then◌else◌, List, ℕ, ◌≤◌, ◌<◌, nat_lt, length, Option, None, IsSomeAnd, Result, Ok, Err}
use Rattle.day.specs.declared.Totals.{Totals}
use Rattle.day.specs.declared.Refusal.{Refusal}
use Rattle.day.specs.Sums.{at}
use Rattle.day.specs.Day.{Day, periods, required}
use Rattle.day.specs.Refusals.{number_of}
use Rattle.plain.specs.declared.Best.{Best}

-- the first n amounts are in the slots
pub record SamePlan (n : ℕ) (plan slots : List ℕ) : Type 0 where
  pub room : n ≤ length slots
  pub alike : (k : ℕ) → k < n → at slots k ≡ at plan k

-- the plan found, with its cost and setups
pub record Same (best : Best) (n : ℕ) (t : Totals) (slots : List ℕ) : Type 0 where
  pub totals : t ≡ best.totals
  pub plan : SamePlan n best.plan slots

-- the number of the refusal of a day without a plan: 14 where A is above R + Z, else 7
abbrev pub without_plan : Day → ℕ
without_plan d = if nat_lt (required d) d.opening then 14 else 7

-- the plan found; or that refusal, where none was found
abbrev pub Agrees : Day → Option Best → Result Totals Refusal → List ℕ → Type 0
Agrees d best (Err r) slots = (best ≡ None) × (number_of r ≡ without_plan d)
Agrees d best (Ok t) slots = IsSomeAnd best (λ found. Same found (periods d) t slots)

-- and the day has at most four periods
abbrev pub Agreement : Day → Option Best → Result Totals Refusal → List ℕ → Type 0
Agreement d best answer slots = (periods d ≤ 4) × Agrees d best answer slots
