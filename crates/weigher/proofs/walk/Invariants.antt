-- The walk over the periods passed runs, with the sums that the code holds.
use Rattle.day.specs.Sums.{at}
use Rattle.day.specs.Lent.{lent_day}
use Rattle.weigher.proofs.Walking.{Walking}
use Rattle.weigher.proofs.walk.Given as goal

abbrev pub invariant-loop-i : goal.invariant-loop-i
invariant-loop-i l = Walking (lent_day l.day) (at l.plan) l.i-counter l.s
