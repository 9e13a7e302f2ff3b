-- A record before record i is one of the file's periods, and the next one begins where it ends.
use Rattle.std.proofs.Common.{arith, add-one}
use Rattle.dayfile.specs.Layout.{period_at}
use Rattle.dayfile.proofs.layout.record_at.Goals as goal

pub next-at-requires : goal.next-at-requires
next-at-requires c = omega (arith, (period_at c.args.file.now c.loop.counter (omega arith)).whole)

pub loop-preserved : goal.loop-preserved
loop-preserved c = rw (add-one, c.next-at.ensures, c.loop.invariant)
