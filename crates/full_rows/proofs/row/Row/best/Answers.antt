-- One amount more, and all of them.
use Rattle.std.proofs.Common.{rules, arith}
use Rattle.full_rows.proofs.Laws.{scanned_more, scanned_all}
use Rattle.full_rows.proofs.row.Row.best.Goals as goal

pub loop-amount-preserved : goal.loop-amount-preserved
loop-amount-preserved c = scanned_more c.loop-amount.invariant _ _ c.loop-amount-test.true c.choice.ensures c.cheaper-best.ensures

pub returns : goal.returns
returns c = scanned_all c.loop-amount.invariant (search rules) (search rules) c.loop-amount-test.false

pub returns-2 : goal.returns-2
returns-2 c =
    scanned_all (scanned_more c.loop-amount.invariant _ _ c.loop-amount-test.true c.choice.ensures c.cheaper-best.ensures)
    (search rules) (search rules) (omega arith)
