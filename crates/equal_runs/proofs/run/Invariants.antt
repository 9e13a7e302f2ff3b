-- After k periods the states and the amounts are those of k periods.
use Rattle.equal_runs.proofs.Running.{Running}
use Rattle.equal_runs.proofs.run.Given as goal

abbrev pub invariant-loop-k : goal.invariant-loop-k
invariant-loop-k l = Running l.problem l.l l.sizes l.top l.width l.states l.picks l.k l.due
