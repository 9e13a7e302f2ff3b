-- The first k cells of each table hold the numbers of the file's first k periods, and record k begins at `at`.
use Rattle.day.specs.Day.{tables_of}
use Rattle.dayfile_reader.specs.Tables.{PeriodsRead}
use Rattle.dayfile_reader.proofs.fill.Given as goal

abbrev pub invariant-loop-k : goal.invariant-loop-k
invariant-loop-k l =
    PeriodsRead l.file.bytes.now l.file.periods (tables_of l.fn.demand l.fn.capacity l.fn.setup l.fn.unit l.fn.holding l.fn.store) l.k l.at
    (tables_of l.demand l.capacity l.setup l.unit l.holding l.store)
