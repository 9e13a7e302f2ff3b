-- The first k cells of each table hold the numbers drawn for the first k periods, and the seed is the one after their draws.
use Rattle.day.specs.Day.{tables_of}
use Rattle.test_load.specs.Periods.{PeriodsDrawn}
use Rattle.test_load.proofs.draw_periods.Given as goal

abbrev pub invariant-loop-k : goal.invariant-loop-k
invariant-loop-k l =
    PeriodsDrawn l.fn.seed l.fn.n (tables_of l.fn.demand l.fn.capacity l.fn.setup l.fn.unit l.fn.holding l.fn.store) l.k l.at
    (tables_of l.demand l.capacity l.setup l.unit l.holding l.store)
