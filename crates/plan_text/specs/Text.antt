-- What `dayplan` prints for a day: a refusal's line, or the lines of the day's plan.
-- Main definition: `SaysPlanOf`, the contract of the text. Assumes nothing.
use Rattle.std.specs.Prelude.{◌≡◌, List, [], ◌++◌, ℕ, zero, suc, Option, None, Some}
use Rattle.day.specs.declared.Refusal.{Refusal}
use Rattle.day.specs.Day.{Day, periods}
use Rattle.day.specs.Plan.{Optimal, cost, setups}
use Rattle.day.specs.Outcome.{refusal}
use Rattle.day.specs.Paths.{full}
use Rattle.lines.specs.Text.{plan_line, amount_line, refusal_line}
use Rattle.program_plan.specs.Areas.{lent}

-- a line for each of the first k periods of a plan
abbrev pub amount_lines : Day → (ℕ → ℕ) → ℕ → List ℕ
amount_lines d x zero = []
amount_lines d x (suc k) = amount_lines d x k ++ amount_line d x k

-- the lines of a plan: n, its cost and its starts; then its periods
abbrev pub plan_text : Day → (ℕ → ℕ) → List ℕ
plan_text d x = plan_line (periods d) (cost d x) (setups (periods d) x) ++ amount_lines d x (periods d)

-- text says the plan of a day
pub record SaysPlan (d : Day) (text : List ℕ) : Type 0 where
  pub amounts : ℕ → ℕ
  pub plan : Optimal d amounts
  pub is : text ≡ plan_text d amounts

-- where there is a refusal, text is its line; else it says the plan
abbrev pub Says : Option Refusal → Day → List ℕ → Type 0
Says (Some r) d text = text ≡ refusal_line r
Says None d text = SaysPlan d text

-- text says a day's plan, by the full path with the program's areas
abbrev pub SaysPlanOf : Day → List ℕ → Type 0
SaysPlanOf d = Says (refusal full d lent) d
