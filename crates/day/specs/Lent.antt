-- What a contract says of lent tables: the values that they hold when a call begins, and when it ends.
-- Main definitions: `lent_day`, of a lent day; of tables that are lent one by one `day_before`, `tables_before`, `tables_lent`, `tables_after`;
-- `memory_before`, `memory_after`, of a path that is lent no choice area `cells_before`, `cells_after`, and of a call that is lent no slots
-- `areas_before`, `areas_after`. Assumes nothing.
use Rattle.std.specs.Prelude.{List, [], ℕ}
use Rattle.std.specs.Borrow.{Bor, MutBor}
use denote.Triple.Both.{Both}
use Rattle.day.specs.declared.Ends.{Ends}
use Rattle.day.specs.declared.lent.Day.{Day as LentDay}
use Rattle.day.specs.Day.{Day, day_of, no_ends, tables_of}
use Rattle.day.specs.Outcome.{Memory, memory_of}

-- the day that a lent one holds
abbrev pub lent_day : LentDay → Day
lent_day l = day_of l.demand.now l.capacity.now l.setup.now l.unit.now l.holding.now l.store.now l.ends

-- a slice that is lent to be read, as a contract's `ensures` has it: at entry and at exit
abbrev pub Lent : Type 0
Lent = Both (Bor (List ℕ)) (Bor (List ℕ))

-- and one that is lent to be written
abbrev pub LentMut : Type 0
LentMut = Both (MutBor (List ℕ)) (MutBor (List ℕ))

abbrev pub day_before : (demand capacity setup unit holding store : Lent) → Ends → Day
day_before demand capacity setup unit holding store ends =
    day_of demand.entry.now capacity.entry.now setup.entry.now unit.entry.now holding.entry.now store.entry.now ends

-- tables that are lent without ends: to be read, and to be filled
abbrev pub tables_before : (demand capacity setup unit holding store : Lent) → Day
tables_before demand capacity setup unit holding store = day_before demand capacity setup unit holding store no_ends

abbrev pub tables_lent : (demand capacity setup unit holding store : LentMut) → Day
tables_lent demand capacity setup unit holding store =
    tables_of demand.entry.now capacity.entry.now setup.entry.now unit.entry.now holding.entry.now store.entry.now

abbrev pub tables_after : (demand capacity setup unit holding store : LentMut) → Day
tables_after demand capacity setup unit holding store =
    tables_of demand.exit.now capacity.exit.now setup.exit.now unit.exit.now holding.exit.now store.exit.now

abbrev pub memory_before : (costs choices slots : LentMut) → Memory
memory_before costs choices slots = memory_of costs.entry.now choices.entry.now slots.entry.now

abbrev pub memory_after : (costs choices slots : LentMut) → Memory
memory_after costs choices slots = memory_of costs.exit.now choices.exit.now slots.exit.now

-- memory without a choice area
abbrev pub cells_before : (costs slots : LentMut) → Memory
cells_before costs slots = memory_of costs.entry.now [] slots.entry.now

abbrev pub cells_after : (costs slots : LentMut) → Memory
cells_after costs slots = memory_of costs.exit.now [] slots.exit.now

-- memory without slots
abbrev pub areas_before : (costs choices : LentMut) → Memory
areas_before costs choices = memory_of costs.entry.now choices.entry.now []

abbrev pub areas_after : (costs choices : LentMut) → Memory
areas_after costs choices = memory_of costs.exit.now choices.exit.now []
