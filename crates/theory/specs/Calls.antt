-- What a path's answer says of the day and its plan. Main definitions: `IsPlan`, `CheapestFirst`. That the paths keep to it is in proofs/Calls.
-- Assumes nothing.
use Rattle.std.specs.Prelude.{◌≡◌, ◌⊎◌, ℕ, ◌≤◌, ◌<◌, Result, Ok, Err}
use Rattle.day.specs.declared.Refusal.{Refusal}
use Rattle.day.specs.declared.Totals.{Totals}
use Rattle.day.specs.Day.{Day, periods}
use Rattle.day.specs.Plan.{Feasible, cost}
use Rattle.theory.specs.Order.{LastSmaller}

-- the answer is a plan
abbrev pub IsPlan : Result Totals Refusal → Type 0
IsPlan (Err r) = ⊥
IsPlan (Ok t) = Unit {0}

-- Of amounts x and what they are said to cost: every other plan that keeps the rules costs at least as much,
-- and one that costs the same has the larger amount in the last period where the two differ.
abbrev pub CheapestFirst : Day → (ℕ → ℕ) → ℕ → Type 0
CheapestFirst d x said =
    (y : ℕ → ℕ) → Feasible d y
    → (said ≤ cost d y) × (said ≡ cost d y → ((k : ℕ) → k < periods d → x k ≡ y k) ⊎ LastSmaller (periods d) x y)
