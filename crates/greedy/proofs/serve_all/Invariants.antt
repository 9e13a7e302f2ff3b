-- The needs of the first k periods are served.
use Rattle.std.proofs.Common.{◌≡◌, Some}
use Rattle.day.specs.Sums.{at}
use Rattle.theory.specs.Greedy.{greedy_to}
use Rattle.greedy.proofs.serve_all.Given as goal

abbrev pub invariant-loop-k : goal.invariant-loop-k
invariant-loop-k l = greedy_to (at l.from.keys.now) (at l.from.capacity.now) (at l.need) l.k l.fn.slots ≡ Some l.slots
