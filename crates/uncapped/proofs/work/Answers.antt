-- The tests leave what each step asks, and the steps what an accepted call leaves.
use Rattle.std.proofs.Common.{rules}
use Rattle.day.specs.Lent.{lent_day}
use Rattle.day.specs.Outcome.{memory_of}
use Rattle.uncapped.proofs.Entry.{solvable, slots_feasible, work_accepted}
use Rattle.uncapped.proofs.work.Goals as goal

pub solve-requires : goal.solve-requires
solve-requires c =
    let a = c.args in
    let given = lent_day a.day in
    let lent = memory_of a.costs.now a.choices.now a.slots.now in
    solvable given lent c.requires c.problem-p.ensures

pub totals-requires : goal.totals-requires
totals-requires c =
    let a = c.args in
    let given = lent_day a.day in
    let lent = memory_of a.costs.now a.choices.now a.slots.now in
    slots_feasible given lent c.requires c.problem-p.ensures _ c.solve.ensures

pub returns : goal.returns
returns c =
    let a = c.args in
    let given = lent_day a.day in
    let lent = memory_of a.costs.now a.choices.now a.slots.now in
    work_accepted given lent c.requires c.problem-p.ensures _ c.solve.ensures _ _ _ c.totals.ensures (search rules) (search rules)
