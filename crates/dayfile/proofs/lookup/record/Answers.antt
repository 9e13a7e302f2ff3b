-- Where `check` passes, the period is one of the file's, and its record is whole.
use Rattle.std.proofs.Common.{arith, ◌-◌}
use Rattle.dayfile.specs.Passed.{lookup_passed}
use Rattle.dayfile.specs.Layout.{period_at}
use Rattle.dayfile.proofs.lookup.record.Goals as goal

pub overflow_sub-period : goal.overflow_sub-period
overflow_sub-period c = (lookup_passed c.args.file.now c.args.period c.in_ok-check.ensures).0

pub record_at-requires : goal.record_at-requires
record_at-requires c = omega (arith, lookup_passed c.args.file.now c.args.period c.in_ok-check.ensures)

pub returns : goal.returns
returns c =
    let asked = lookup_passed c.args.file.now c.args.period c.in_ok-check.ensures in
    let whole = (period_at c.args.file.now (c.args.period - 1) (omega (arith, asked))).whole in
    (c.in_ok-check.ensures, c.record_at.ensures, rw c.record_at.ensures whole)
