-- Made and needed are the sums over the first i periods, and the charge before the day is there before them.
use Rattle.std.proofs.Common.{arith}
use Rattle.lines.specs.Laws.{part_total}
use Rattle.lines.proofs.inventory.Goals as goal

pub returns : goal.returns
returns c =
    let a = c.args in
    let there = part_total a.plan.now a.i _ c.requires.planned c.summed.ensures.is in
    let needed = part_total a.day.demand.now a.i _ c.requires.demanded c.summed-2.ensures.is in
    omega (arith, there, needed)
