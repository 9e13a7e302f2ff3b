-- The walk's refusal, or that of the stamp, or that of the count after it.
use Rattle.std.proofs.Common.{rules}
use Rattle.day.specs.Refusals.{bad_count}
use Rattle.day.specs.Tests.{passed, refused, alone}
use Rattle.day.specs.File.{periods_in, walk, wrong_stamp}
use Rattle.file_checks.proofs.tests.Goals as goal

pub returns-in_err-walk : goal.returns-in_err-walk
returns-in_err-walk c = rw (refused (walk c.args.file.bytes.now) c.walk.ensures c.in_err-walk.was) (search rules)

pub returns-in_err-stamp : goal.returns-in_err-stamp
returns-in_err-stamp c =
    let s = c.args.file.bytes.now in
    let walked = passed (walk s) c.walk.ensures c.in_ok-walk.was in
    rw (walked, refused (wrong_stamp c.args.expected s) c.stamp.ensures c.in_err-stamp.was) (search rules)

pub returns : goal.returns
returns c =
    let s = c.args.file.bytes.now in
    let walked = passed (walk s) c.walk.ensures c.in_ok-walk.was in
    let stamped = passed (wrong_stamp c.args.expected s) c.stamp.ensures c.in_ok-stamp.was in
    rw (walked, stamped) (alone (bad_count (periods_in s)) (rw c.args.file.counted at c.count.ensures))
