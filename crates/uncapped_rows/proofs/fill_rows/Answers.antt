-- No row but the first is there at the start, and each last lot adds one.
use Rattle.std.proofs.Common.{length-set, get_or-set_same, add-one, arith}
use Rattle.uncapped_rows.proofs.Filling.{rows_none, rows_more}
use Rattle.uncapped_rows.proofs.fill_rows.Goals as goal

pub loop-m-init : goal.loop-m-init
loop-m-init c = rows_none _ _ _ (get_or-set_same c.args.costs.now 0 0 0 (omega (arith, c.requires.cost_cells)))

pub loop-m-preserved : goal.loop-m-preserved
loop-m-preserved c =
    rows_more _ _ _ (simp length-set c.requires.cost_cells) c.requires.choice_cells
    _ _ _ _ _ (add-one _) c.loop-m-test.true c.loop-m.invariant c.row-next.ensures
