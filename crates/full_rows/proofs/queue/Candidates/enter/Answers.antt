-- The newcomer stands behind what it doesn't outdo.
use Rattle.std.proofs.Common.{refl}
use Rattle.full_rows.proofs.Queueing.{entries_part, queue_part, outdone_part, entered}
use Rattle.full_rows.proofs.queue.Candidates.enter.Goals as goal

pub end_for-requires-clause-queue : goal.end_for-requires-clause-queue
end_for-requires-clause-queue c =
    queue_part (entries_part c.args.self.now c.entries.ensures) c.requires.queue

pub returns : goal.returns
returns c =
    entered c.requires.queue c.requires.room c.if-row-newcomer.false
    (outdone_part (entries_part c.args.self.now c.entries.ensures) c.end_for.result
    c.end_for.ensures) refl refl refl
