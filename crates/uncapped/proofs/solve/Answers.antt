-- The choices that the rows leave tell the plan of the last.
use Rattle.uncapped.proofs.solve.Goals as goal

pub returns : goal.returns
returns c =
    let rows = c.fill.ensures in
    record { slots = c.read_back.ensures _ rows.lots; costs = rows.costs_rest; choices = rows.choices_rest }
