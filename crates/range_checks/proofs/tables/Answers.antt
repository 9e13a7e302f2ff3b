-- Where 1, and 2 on both tables, have passed, the earlier of the two answers of 3 is the call's.
use Rattle.std.specs.Prelude.{None}
use Rattle.std.proofs.Common.{◌≡◌, length}
use borrow.Author.Tests.{eq-eqb}
use Rattle.day.specs.Day.{periods}
use Rattle.day.specs.Lent.{lent_day}
use Rattle.day.specs.Refusals.{bad_count, bad_lengths, bad_values}
use Rattle.day.specs.Tests.{passed, first_one}
use Rattle.range_checks.proofs.Laws.{both_values}
use Rattle.range_checks.proofs.tables.Goals as goal

pub returns : goal.returns
returns c =
    let d = lent_day c.args.day in
    let needs = c.args.needs.now in
    let n = c.periods.ensures in
    let n' = c.periods-2.ensures in
    let counted : bad_count (periods d) ≡ None = passed (bad_count (periods d)) (rw n at c.count.ensures) c.in_ok-count.was in
    let measured : bad_lengths d ≡ None = passed (bad_lengths d) c.lengths.ensures c.in_ok-lengths.was in
    let size : length needs ≡ periods d = rw n' at c.if-needs-periods.false in
    let long = eq-eqb (length needs) (periods d) size in
    rw (counted, measured, long, first_one (bad_values needs d))
    (both_values needs d size c.values-first.ensures c.with_demand.ensures c.values-second.ensures c.earlier.ensures)
