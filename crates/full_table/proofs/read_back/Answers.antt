-- One slot more.
use Rattle.full_table.proofs.Reading.{reading_more}
use Rattle.full_table.proofs.read_back.Goals as goal

pub loop-i-preserved : goal.loop-i-preserved
loop-i-preserved c = rw c.from-left.ensures (reading_more c.loop-i.invariant c.loop-i-test.true)
