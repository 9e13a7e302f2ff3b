-- Both counts over the periods passed, each at most as many as these.
use Rattle.std.proofs.Common.{◌*◌, length}
use Rattle.day.specs.Sums.{Term, at}
use Rattle.day.specs.Loads.{full_to, part_to}
use Rattle.loads.proofs.count.Given as goal

abbrev pub invariant-loop-most : goal.invariant-loop-most
invariant-loop-most l =
    let k = length l.yielded in
    Term (full_to (at l.capacity) (at l.plan) k) (1 * k) l.full × Term (part_to (at l.capacity) (at l.plan) k) (1 * k) l.part
