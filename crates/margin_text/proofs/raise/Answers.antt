-- A turn puts one need more.
use Rattle.margin_text.specs.Laws.{listed_more}
use Rattle.margin_text.proofs.raise.Goals as goal

pub loop-need-preserved : goal.loop-need-preserved
loop-need-preserved c = listed_more _ c.loop-need.invariant c.raised.ensures c.push.ensures.items
