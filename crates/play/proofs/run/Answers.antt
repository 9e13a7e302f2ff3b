-- By the balances of what was made and needed so far, no sum is too large for one period more.
use Rattle.std.proofs.Common.{arith}
use Rattle.play.proofs.Running.{running_room}
use Rattle.play.proofs.run.Goals as goal

pub advance-p-requires : goal.advance-p-requires
advance-p-requires c = running_room c.loop-amount.invariant c.requires.few (omega (arith, c.ranges.opening.fits))
