-- What is still to be read, and then the slots written, are the interval.
use Rattle.std.proofs.Common.{◌≡◌, ◌++◌, ◌<◌, length, drop}
use Rattle.equal_runs.specs.Run.{back_of}
use Rattle.equal_runs.proofs.read_back.Given as goal

abbrev pub invariant-loop-k : goal.invariant-loop-k
invariant-loop-k l =
    (l.state < l.width)
    × (back_of l.full l.width l.picks l.k l.state ++ drop l.k l.slots ≡ back_of l.full l.width l.picks (length l.initial.slots) l.s)
