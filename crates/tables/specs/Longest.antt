-- Six tables for the longest day: what they begin with, and the values that they hold. Assumes nothing.
use Rattle.std.specs.Prelude.{replicate}
use Rattle.day.specs.Day.{Day, tables_of}
use Rattle.tables.specs.declared.Tables.{Tables}

-- 0 in each of 96 cells
abbrev pub blank : Tables
blank = record {
  demand = replicate 96 0;
  capacity = replicate 96 0;
  setup = replicate 96 0;
  unit = replicate 96 0;
  holding = replicate 96 0;
  store = replicate 96 0;
}

-- what they hold
abbrev pub held : Tables → Day
held t = tables_of t.demand t.capacity t.setup t.unit t.holding t.store
