-- Easier days, and needs known as ranges: a lowest and a highest need for each period.
-- The day that a call reads has the highest needs; the lowest are a table of their own.
-- Main definitions: `Easier`, `LeastCost`, `Between`; `Bounding`, the contract of the call. Assumes nothing.
use Rattle.std.specs.Prelude.{◌≡◌, List, [], ◌∷◌, ◌++◌, ℕ, ◌≤◌, ◌<◌, length, Option, None, Result, Ok, Err}
use Rattle.day.specs.declared.Refusal.{Refusal}
use Rattle.day.specs.declared.Bounds.{Bounds}
use Rattle.day.specs.Sums.{at}
use Rattle.day.specs.Day.{Day, periods, total, with_demand, max_total}
use Rattle.day.specs.Plan.{Optimal, cost}
use Rattle.day.specs.Refusals.{Gives, first, pair_tests, total_tests, opened, reversed, shortage}
use Rattle.day.specs.Figures.{accepted_with, bounds_figures}
use Rattle.day.specs.declared.Sizes.{Sizes}
use Rattle.day.specs.Outcome.{Memory, sizes_of, area_test, Cleared}
use Rattle.day.specs.Paths.{full}

-- e has no higher need, start, unit cost, upkeep or Z than d, and no lower capacity or store limit, in any place
pub record Easier (e d : Day) : Type 0 where
  pub size : periods e ≡ periods d
  pub demand : (k : ℕ) → k < periods d → at e.demand k ≤ at d.demand k
  pub setup : (k : ℕ) → k < periods d → at e.setup k ≤ at d.setup k
  pub unit : (k : ℕ) → k < periods d → at e.unit k ≤ at d.unit k
  pub holding : (k : ℕ) → k < periods d → at e.holding k ≤ at d.holding k
  pub closing : e.closing ≤ d.closing
  pub capacity : (k : ℕ) → k < periods d → at d.capacity k ≤ at e.capacity k
  pub store : (k : ℕ) → k < periods d → at d.store k ≤ at e.store k

-- the day has a plan, and c is what its plan costs, the least that any costs
pub record LeastCost (d : Day) (c : ℕ) : Type 0 where
  pub plan : ℕ → ℕ
  pub optimal : Optimal d plan
  pub is : c ≡ cost d plan

-- a table of needs that lies between two, period by period
pub record Between (lowest needs highest : List ℕ) : Type 0 where
  pub size : length needs ≡ length highest
  pub above : (k : ℕ) → k < length highest → at lowest k ≤ at needs k
  pub below : (k : ℕ) → k < length highest → at needs k ≤ at highest k

-- 5, by what the full path needs for the highest needs; 17, 18
abbrev pub bound_tests : List ℕ → Day → Sizes → List (Option Refusal)
bound_tests lowest d s = area_test full d s ∷ opened d ∷ reversed lowest d ∷ []

-- the call's tests before 7, in order: 1; 2 and 3 on both tables; 4, 14, then these
abbrev pub range_tests : List ℕ → Day → Sizes → List (Option Refusal)
range_tests lowest d s = pair_tests lowest d ++ (total_tests max_total d ++ bound_tests lowest d s)

-- its first refusal: of these, or 7 on the highest
abbrev pub range_refusal : List ℕ → Day → Sizes → Option Refusal
range_refusal lowest d s = first (range_tests lowest d s ++ (shortage d ∷ []))

-- an accepted call gives the least cost of the day with the lowest needs and with the highest, by the answer's figures; the cells of both areas that
-- the full path needs for the highest hold zero, the rest is as it was. No slots are lent.
pub record BothBounded (lowest : List ℕ) (d : Day) (b : Bounds) (before after : Memory) : Type 0 where
  pub least : ℕ
  pub most : ℕ
  pub low : LeastCost (with_demand lowest d) least
  pub high : LeastCost d most
  pub gives : bounds_figures (Ok b) ≡ accepted_with (least ∷ most ∷ [])
  pub costs : Cleared (full.cost_cells (periods d) (total d)) before.costs after.costs
  pub choices : Cleared (full.choice_cells (periods d) (total d)) before.choices after.choices

-- the contract of the call: where there is a refusal it is the answer, by its number and period, and no cell changes
abbrev pub Bounding : List ℕ → Day → Memory → Result Bounds Refusal → Memory → Type 0
Bounding lowest d before (Err r) after = Gives (range_refusal lowest d (sizes_of before)) r × (after ≡ before)
Bounding lowest d before (Ok b) after = (range_refusal lowest d (sizes_of before) ≡ None) × BothBounded lowest d b before after
