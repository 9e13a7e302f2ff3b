-- The plans that hold come in turn, and the first of the cheapest is kept; on a tiny day it is the plan of the day.
use Rattle.std.proofs.Common.{refl, sym, subst, rules, tests, arith}
use Rattle.std.proofs.lemmas.Iterator.{YieldsList-from_range}
use Rattle.std.proofs.lemmas.Iterator.Consumers.{YieldsList-from_filter_map, YieldsList-at}
use Rattle.day.specs.Lent.{lent_day}
use Rattle.plain.specs.Search.{found_at, Chosen}
use Rattle.plain.specs.Optimal.{chosen_optimal}
use Rattle.day.specs.Least.{picked}
use Rattle.plain.proofs.Choosing.{cost_of, held_from, chosen}
use Rattle.plain.proofs.search.Goals as goal

pub returns : goal.returns
returns c =
    let d = lent_day c.args.day in
    let n = c.plans.result in
    let in_turn = YieldsList-at c.filter_map.ensures.source (YieldsList-from_range 0 n n refl (omega arith)) in
    let is =
    picked _ _ cost_of (λ k v q h. search (rules, tests)) (held_from d 0 n) c.min_by_key.result c.min_by_key.ensures.ran
    (YieldsList-from_filter_map _ (found_at d) in_turn c.filter_map.ensures.closure (λ m r q h. search (rules, tests))) in
    let best = rw (c.plans.ensures, c.periods.ensures) at (subst (Chosen d n) (sym is) (chosen d n)) in
    record { chosen = best; tiny = λ t. chosen_optimal d t c.min_by_key.result best }
