-- The tests leave what each step asks, and the steps what an accepted call leaves.
use Rattle.std.proofs.Common.{◌≡◌, ap, ap₂, List, ℕ, ◌*◌, [], ◌++◌, arith, drop, replicate, length-take-le}
use Rattle.std.proofs.lemmas.Grind.{common_steps}
use Rattle.day.specs.Lent.{lent_day}
use Rattle.day.specs.Outcome.{memory_of}
use Rattle.big.proofs.Entry.{has_area, trials_ask, narrow, answerable, best_so_far}
use Rattle.big.proofs.work.Goals as goal

pub make_trials-used-requires : goal.make_trials-used-requires
make_trials-used-requires c =
    let a = c.args in
    let m = memory_of a.costs.now [] a.slots.now in
    let n = c.periods-n.ensures in
    let needed = c.cells-needed.ensures.costs in
    let area = length-take-le c.cells-needed.result.costs a.costs.now (omega (arith, needed, n, has_area a.trials (lent_day a.day) m c.requires)) in
    trials_ask a.trials (lent_day a.day) m c.requires _ _ _ _ (grind (arith, common_steps)) (grind (arith, common_steps)) (grind (arith, common_steps))
    (omega (arith, n, needed, area, c.split_at_mut-keys.ensures.back_len, c.split_at_mut-marks.ensures.back_len))

pub hand_out-requires-clause-narrow : goal.hand_out-requires-clause-narrow
hand_out-requires-clause-narrow c =
    let a = c.args in
    narrow a.trials (lent_day a.day) (memory_of a.costs.now [] a.slots.now) c.requires _ _ _ _ c.make_trials-used.ensures

pub answer-given-requires : goal.answer-given-requires
answer-given-requires c =
    let a = c.args in
    rw c.hand_out.ensures
    (answerable a.trials (lent_day a.day) (memory_of a.costs.now [] a.slots.now) c.requires _ _ _ _ c.make_trials-used.ensures)

pub returns : goal.returns
returns c =
    let a = c.args in
    let n = c.periods-n.result in
    let needed : c.cells-needed.result.costs ≡ 3 * n = c.cells-needed.ensures.costs in
    let zeros : c.fill.new.self ≡ replicate (3 * n) 0 = grind (arith, common_steps) in
    best_so_far a.trials (lent_day a.day) (memory_of a.costs.now [] a.slots.now) c.requires _ _ _ _ c.make_trials-used.ensures c.answer-given.result _ _
    (rw c.hand_out.ensures at c.answer-given.ensures)
    (ap₂ (λ (l : List ℕ) (k : ℕ). l ++ drop k a.slots.now) c.hand_out.ensures c.periods-n.ensures)
    (rw (← c.periods-n.ensures, needed) (ap (λ (l : List ℕ). l ++ drop (3 * n) a.costs.now) zeros))
