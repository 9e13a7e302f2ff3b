-- The cells of the totals below this one are written, and those totals have entered the queue.
use Rattle.std.proofs.Common.{length}
use Rattle.full_rows.proofs.Queueing.{RowFilling}
use Rattle.full_rows.proofs.fill.Given as goal

abbrev pub invariant-loop-total : goal.invariant-loop-total
invariant-loop-total l = RowFilling l.row l.fn.after l.fn.choices l.after l.choices (length l.fn.cells) l.queue l.total
