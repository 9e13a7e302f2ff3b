-- What is left to do gives what was to be given.
use Rattle.std.proofs.Common.{◌≡◌}
use Rattle.day.specs.Sums.{at}
use Rattle.theory.specs.Greedy.{serve}
use Rattle.greedy.proofs.serve.Given as goal

abbrev pub invariant-loop-left : goal.invariant-loop-left
invariant-loop-left l =
    let key = at l.from.keys.now in
    let capacity = at l.from.capacity.now in
    serve key capacity l.d l.left l.slots ≡ serve key capacity l.d l.need l.fn.slots

abbrev pub decreases-loop-left : goal.decreases-loop-left
decreases-loop-left l = l.left
