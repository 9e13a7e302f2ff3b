-- The periods with capacity left come in turn, and the first of least key is picked.
use Rattle.std.proofs.Common.{refl, rules, tests, arith, ltb}
use Rattle.std.proofs.lemmas.Iterator.{YieldsList-from_range}
use Rattle.std.proofs.lemmas.Iterator.Consumers.{YieldsList-from_filter, YieldsList-at}
use Rattle.day.specs.Sums.{at}
use Rattle.day.specs.Least.{picked}
use Rattle.greedy.proofs.Choosing.{with_room, chosen}
use Rattle.greedy.proofs.source.Goals as goal

pub returns : goal.returns
returns c =
    let key = at c.args.from.keys.now in
    let capacity = at c.args.from.capacity.now in
    let x = at c.args.slots.now in
    let d = c.args.d in
    let in_turn = YieldsList-at c.filter.ensures.source (YieldsList-from_range 0 d d refl (omega arith)) in
    let is =
    picked _ _ key (λ k v q h. search (rules, tests)) (with_room key capacity x 0 d) c.min_by_key.result c.min_by_key.ensures.ran
    (YieldsList-from_filter _ (λ k. ltb (x k) (capacity k)) in_turn c.filter.ensures.closure (λ k b q h. search (rules, tests))) in
    rw is (chosen key capacity x d)
