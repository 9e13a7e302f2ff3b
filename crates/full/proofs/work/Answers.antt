-- What the tests leave is what the table asks; the plan that it leaves can be weighed, and is accepted once both areas are cleared.
use Rattle.std.proofs.Common.{rules}
use Rattle.day.specs.Outcome.{memory_of}
use Rattle.full.proofs.Fronts.{made_bounded, ceilings_each, workable, left_feasible, work_accepted}
use Rattle.full.proofs.work.Goals as goal

pub invariant_of-p-clause-bounded : goal.invariant_of-p-clause-bounded
invariant_of-p-clause-bounded c = made_bounded _ c.problem-problem.ensures c.requires

pub invariant_of-p-clause-each : goal.invariant_of-p-clause-each
invariant_of-p-clause-each c = ceilings_each _ c.problem-problem.ensures c.fill_ceilings.ensures

pub fill_and_read-requires : goal.fill_and_read-requires
fill_and_read-requires c =
    let a = c.args in
    let m = memory_of a.costs.now a.choices.now a.slots.now in
    workable m c.requires c.problem-problem.ensures c.fill_ceilings.ensures c.total-total.ensures.is c.periods-n.ensures c.cells-needed.ensures

pub totals-requires : goal.totals-requires
totals-requires c =
    let a = c.args in
    let m = memory_of a.costs.now a.choices.now a.slots.now in
    left_feasible m c.requires c.problem-problem.ensures c.fill_ceilings.ensures c.total-total.ensures.is c.periods-n.ensures c.cells-needed.ensures
    _ c.fill_and_read.ensures c.fill_and_read.auto.slots

pub returns : goal.returns
returns c =
    let a = c.args in
    let m = memory_of a.costs.now a.choices.now a.slots.now in
    work_accepted m c.requires c.problem-problem.ensures c.fill_ceilings.ensures c.total-total.ensures.is c.periods-n.ensures c.cells-needed.ensures
    _ c.fill_and_read.ensures c.fill_and_read.auto.slots c.fill_and_read.new.costs c.fill_and_read.new.choices c.fill_and_read.auto.costs
    c.fill_and_read.auto.choices c.totals.ensures (search rules) (search rules)
