-- A turn draws the next period's numbers and stores them; after the last, as many periods as were asked for are drawn.
use Rattle.test_load.specs.Periods.{draws_turn}
use Rattle.test_load.proofs.draw_periods.Goals as goal

pub loop-k-preserved : goal.loop-k-preserved
loop-k-preserved c =
    draws_turn _ _ _ _ _ _ _ c.loop-k.invariant c.loop-k-test.true c.requires c.draw-last.ensures c.put.ensures
