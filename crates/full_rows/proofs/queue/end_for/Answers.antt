-- The first from the back that is cheaper than the newcomer stays, and so do those before it.
use Rattle.full_rows.proofs.Queueing.{outdone_found}
use Rattle.full_rows.proofs.queue.end_for.Goals as goal

pub returns-then-key-limit : goal.returns-then-key-limit
returns-then-key-limit c =
    let e = c.from.ensures in
    outdone_found c.requires.queue c.loop-place.invariant c.loop-place-test.true c.key-limit.ensures (rw e at c.key.ensures) c.if-key-limit.true
