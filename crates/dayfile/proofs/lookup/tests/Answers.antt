-- The walk's refusal, or that of the count, or that of the period's number after it.
use Rattle.std.proofs.Common.{rules}
use Rattle.day.specs.Refusals.{bad_count}
use Rattle.day.specs.Tests.{passed, refused, alone}
use Rattle.day.specs.File.{periods_in, walk, no_such_period}
use Rattle.dayfile.proofs.lookup.tests.Goals as goal

pub returns-in_err-walk : goal.returns-in_err-walk
returns-in_err-walk c = rw (refused (walk c.args.file.bytes.now) c.walk.ensures c.in_err-walk.was) (search rules)

pub returns-in_err-count : goal.returns-in_err-count
returns-in_err-count c =
    let s = c.args.file.bytes.now in
    let counted = rw c.args.file.counted at c.count.ensures in
    rw (passed (walk s) c.walk.ensures c.in_ok-walk.was, refused (bad_count (periods_in s)) counted c.in_err-count.was) (search rules)

pub returns : goal.returns
returns c =
    let s = c.args.file.bytes.now in
    let counted = rw c.args.file.counted at c.count.ensures in
    let asked = rw c.args.file.counted at c.number.ensures in
    rw (passed (walk s) c.walk.ensures c.in_ok-walk.was, passed (bad_count (periods_in s)) counted c.in_ok-count.was)
    (alone (no_such_period (periods_in s) c.args.period) asked)
