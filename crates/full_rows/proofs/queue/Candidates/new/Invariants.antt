-- The totals below this one have entered.
use Rattle.std.proofs.Common.{length}
use Rattle.full_rows.proofs.Queueing.{Queuing}
use Rattle.full_rows.proofs.queue.Candidates.new.Given as goal

abbrev pub invariant-loop-before : goal.invariant-loop-before
invariant-loop-before l = Queuing l.row (length l.fn.cells) l.before-end l.before l.queue
