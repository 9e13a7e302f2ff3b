-- The code holds the flows of the periods passed.
use Rattle.std.proofs.Common.{length}
use Rattle.day.specs.Sums.{at}
use Rattle.play.proofs.Running.{Running}
use Rattle.play.proofs.run.Given as goal

abbrev pub invariant-loop-amount : goal.invariant-loop-amount
invariant-loop-amount l = Running l.opening (at l.store) (at l.plan) (at l.actual) (length l.actual) (length l.yielded) l.p
