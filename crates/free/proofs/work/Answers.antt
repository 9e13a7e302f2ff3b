-- The tests leave what each step asks, and the steps what an accepted call leaves.
use Rattle.std.proofs.Common.{[], arith}
use Rattle.std.proofs.lemmas.Grind.{common_steps}
use Rattle.day.specs.Lent.{lent_day}
use Rattle.day.specs.Outcome.{memory_of}
use Rattle.free.proofs.Entry.{solvable, slots_feasible, work_accepted}
use Rattle.free.proofs.work.Goals as goal

pub solve-requires : goal.solve-requires
solve-requires c =
    let a = c.args in
    solvable (lent_day a.day) (memory_of a.costs.now [] a.slots.now) c.requires c.problem-p.ensures

pub totals-requires : goal.totals-requires
totals-requires c =
    let a = c.args in
    slots_feasible (lent_day a.day) (memory_of a.costs.now [] a.slots.now) c.requires c.problem-p.ensures _ c.solve.ensures

pub returns : goal.returns
returns c =
    let a = c.args in
    work_accepted (lent_day a.day) (memory_of a.costs.now [] a.slots.now) c.requires c.problem-p.ensures _ c.solve.ensures _ _ c.totals.ensures
    (grind (arith, common_steps))
