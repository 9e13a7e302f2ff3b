-- A day that passes 1, 2 and 3 is within their limits.
use Rattle.day.specs.Lent.{lent_day}
use Rattle.day.specs.Refusals.{first, table_tests}
use Rattle.day.specs.Tests.{passed}
use Rattle.checks.specs.Passed.{tables_passed}
use Rattle.earlier_calls.proofs.texts.margins_of.Goals as goal

pub day_text-requires : goal.day_text-requires
day_text-requires c =
    let d = lent_day c.args.day in
    tables_passed d (passed (first (table_tests d)) c.tables.ensures c.in_ok-tables.was)
