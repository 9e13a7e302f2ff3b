-- The tests leave what each step asks, and the steps what an accepted call leaves.
use Rattle.std.proofs.Common.{rules}
use Rattle.day.specs.Lent.{lent_day}
use Rattle.day.specs.Outcome.{memory_of}
use Rattle.equal.proofs.Entry.{solvable, slots_feasible, work_accepted}
use Rattle.equal.proofs.work.Goals as goal

pub solve-requires : goal.solve-requires
solve-requires c =
    let a = c.args in
    let d = lent_day a.day in
    let m = memory_of a.costs.now a.choices.now a.slots.now in
    solvable d m c.requires _ c.periods-n.ensures _ c.cells-needed.ensures c.problem-p.ensures

pub totals-requires : goal.totals-requires
totals-requires c =
    let a = c.args in
    let d = lent_day a.day in
    let m = memory_of a.costs.now a.choices.now a.slots.now in
    slots_feasible d m c.requires _ c.periods-n.ensures _ c.cells-needed.ensures c.problem-p.ensures c.solve.new.slots c.solve.auto.slots c.solve.ensures

pub returns : goal.returns
returns c =
    let a = c.args in
    let d = lent_day a.day in
    let m = memory_of a.costs.now a.choices.now a.slots.now in
    work_accepted d m c.requires _ c.periods-n.ensures _ c.cells-needed.ensures c.problem-p.ensures c.solve.new.slots c.solve.auto.slots c.solve.ensures _
    c.solve.new.costs c.solve.new.choices _ _ c.solve.auto.costs c.solve.auto.choices (search rules) (search rules)
    c.totals.ensures
