-- What a caller lends to a path, what the path needs of it and refuses, and what it leaves in it.
-- Main definitions: `refusal`; `Runs`, the contract of every path that gives the plan of the day. Assumes nothing.
use Rattle.std.specs.Prelude.{◌≡◌, List, [], ◌∷◌, ◌++◌, ℕ, ◌≤◌, length, drop, replicate, Option, None, Result, Ok, Err}
use Rattle.std.proofs.Common.{◌∙◌, le-ltb}
use Rattle.day.specs.declared.Refusal.{Refusal}
use Rattle.day.specs.declared.Sizes.{Sizes}
use Rattle.day.specs.declared.Totals.{Totals}
use Rattle.day.specs.Sums.{at}
use Rattle.day.specs.Day.{Day, periods, total}
use Rattle.day.specs.Plan.{Optimal, cost, setups}
use Rattle.day.specs.Refusals.{Gives, or_next, first, day_tests, bad_areas, bad_slots, shortage}
use Rattle.day.specs.Tests.{first_join, first_one}
use Rattle.day.specs.Figures.{accepted_with, answer_figures}

-- what a caller lends: cost area, choice area, answer slots
pub record Memory : Type 0 where
  pub costs : List ℕ
  pub choices : List ℕ
  pub slots : List ℕ

abbrev pub memory_of : (costs choices slots : List ℕ) → Memory
memory_of costs choices slots = record { costs = costs; choices = choices; slots = slots }

-- how many cells these are
abbrev pub sizes : (costs choices slots : ℕ) → Sizes
sizes costs choices slots = record { costs = costs; choices = choices; slots = slots }

abbrev pub sizes_of : Memory → Sizes
sizes_of m = sizes (length m.costs) (length m.choices) (length m.slots)

-- the most that R + Z may be in a path; what it needs in cost cells and choice cells, for n periods in which T is made; and the tests that it alone
-- applies, last
pub record Path : Type 0 where
  pub limit : ℕ
  pub cost_cells : (n T : ℕ) → ℕ
  pub choice_cells : (n T : ℕ) → ℕ
  pub own : Day → List (Option Refusal)

-- what is lent is long enough
pub record Roomy (P : Path) (d : Day) (s : Sizes) : Type 0 where
  pub costs : P.cost_cells (periods d) (total d) ≤ s.costs
  pub choices : P.choice_cells (periods d) (total d) ≤ s.choices
  pub slots : periods d ≤ s.slots

-- 5
abbrev pub area_test : Path → Day → Sizes → Option Refusal
area_test P d s = bad_areas s.costs (P.cost_cells (periods d) (total d)) s.choices (P.choice_cells (periods d) (total d))

-- 5, 6
abbrev pub memory_tests : Path → Day → Sizes → List (Option Refusal)
memory_tests P d s = area_test P d s ∷ bad_slots s.slots (periods d) ∷ []

-- 5, 6, 7, then its own
abbrev pub path_tests : Path → Day → Sizes → List (Option Refusal)
path_tests P d s = memory_tests P d s ++ (shortage d ∷ P.own d)

-- a path's first refusal: 1 to 4, 14, 5 to 7 in order, then its own
abbrev pub refusal : Path → Day → Sizes → Option Refusal
refusal P d s = first (day_tests P.limit d ++ path_tests P d s)

-- what the day brings by itself: 1 to 4, 14, 7
abbrev pub day_refusal : (limit : ℕ) → Day → Option Refusal
day_refusal limit d = first (day_tests limit d ++ (shortage d ∷ []))

-- with room for it, a path refuses a day for what the day is, else by its own tests
pub roomy_first : (P : Path) (d : Day) (s : Sizes) → Roomy P d s → refusal P d s ≡ or_next (day_refusal P.limit d) (first (P.own d))
roomy_first P d s room =
    rw (le-ltb _ _ room.costs, le-ltb _ _ room.choices, le-ltb _ _ room.slots) (first_join (day_tests P.limit d ++ (shortage d ∷ [])) (P.own d))

-- and a day of its kind for what the day is, alone
pub roomy_refusal : (P : Path) (d : Day) (s : Sizes) → Roomy P d s → first (P.own d) ≡ None → refusal P d s ≡ day_refusal P.limit d
roomy_refusal P d s room kind = roomy_first P d s room ∙ rw kind (first_one (day_refusal P.limit d))

-- what is given is the plan's cost and setups, by the answer's figures
abbrev pub Counts : Day → (ℕ → ℕ) → Totals → Type 0
Counts d x t = answer_figures (Ok t) ≡ accepted_with (cost d x ∷ setups (periods d) x ∷ [])

-- the first k cells hold zero, and the later ones what they held
abbrev pub cleared : ℕ → List ℕ → List ℕ
cleared k before = replicate k 0 ++ drop k before

abbrev pub Cleared : ℕ → List ℕ → List ℕ → Type 0
Cleared k before after = after ≡ cleared k before

-- an accepted call: the first n slots hold the plan, the needed cells of both areas hold zero, the rest is as it was
pub record Accepted (P : Path) (d : Day) (t : Totals) (before after : Memory) : Type 0 where
  pub plan : Optimal d (at after.slots)
  pub counts : Counts d (at after.slots) t
  pub size : length after.slots ≡ length before.slots
  pub rest : drop (periods d) after.slots ≡ drop (periods d) before.slots
  pub costs : Cleared (P.cost_cells (periods d) (total d)) before.costs after.costs
  pub choices : Cleared (P.choice_cells (periods d) (total d)) before.choices after.choices

-- the contract of a path: where there is a refusal it is the answer, by its number and period, and no cell changes
abbrev pub Runs : Path → Day → Memory → Result Totals Refusal → Memory → Type 0
Runs P d before (Err r) after = Gives (refusal P d (sizes_of before)) r × (after ≡ before)
Runs P d before (Ok t) after = (refusal P d (sizes_of before) ≡ None) × Accepted P d t before after
