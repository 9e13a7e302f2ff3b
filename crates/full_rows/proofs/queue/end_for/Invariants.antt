-- What has left is no cheaper than the newcomer.
use Rattle.std.proofs.Common.{length}
use Rattle.day.specs.Sums.{at}
use Rattle.full_rows.specs.Queue.{Dearer}
use Rattle.full_rows.proofs.queue.end_for.Given as goal

abbrev pub invariant-loop-place : goal.invariant-loop-place
invariant-loop-place l = Dearer l.row.stage (at l.row.costs.now) l.entries l.newcomer 0 (length l.entries) l.place
