-- What the call does that fills six lent tables with a test load: its tests, its answer, what it leaves.
-- Main definition: `Loading`, its contract. Assumes nothing.
use Rattle.std.specs.Prelude.{◌≡◌, [], ◌∷◌, ℕ, Option, None, Result, Ok, Err}
use Rattle.day.specs.Day.{Day, max_store}
use Rattle.day.specs.declared.Entries.{Entries}
use Rattle.day.specs.declared.Refusal.{Refusal}
use Rattle.day.specs.Refusals.{Gives, first, bad_count, bad_slots}
use Rattle.tables.specs.Filled.{shortest, with_numbers}
use Rattle.test_load.specs.Draws as draws

-- 1, then 6
abbrev pub bad_load : (n cells : ℕ) → Option Refusal
bad_load n cells = first (bad_count n ∷ bad_slots cells n ∷ [])

-- the numbers of period k + 1: as drawn, with a store limit of 65,535
abbrev pub numbers_at : (seed k : ℕ) → Entries
numbers_at seed k = record {
  demand = draws.need seed k;
  capacity = draws.capacity seed k;
  setup = draws.start seed k;
  unit = draws.unit seed k;
  holding = draws.upkeep seed k;
  store = max_store;
}

-- tables whose first n cells take the numbers of n periods; later cells stay
abbrev pub with_load : (seed n : ℕ) → Day → Day
with_load seed n tables = with_numbers (numbers_at seed) n tables

-- refused, by number and period, no cell changes; accepted, the load fills the tables' first cells
abbrev pub Loading : (seed n : ℕ) → Day → Result (Unit {0}) Refusal → Day → Type 0
Loading seed n before (Err r) after = Gives (bad_load n (shortest before)) r × (after ≡ before)
Loading seed n before (Ok _) after = (bad_load n (shortest before) ≡ None) × (after ≡ with_load seed n before)
