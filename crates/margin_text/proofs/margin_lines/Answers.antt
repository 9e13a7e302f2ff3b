-- A turn puts one line more.
use Rattle.margin_text.specs.Laws.{margins_more}
use Rattle.margin_text.proofs.margin_lines.Goals as goal

pub loop-margin-preserved : goal.loop-margin-preserved
loop-margin-preserved c =
    margins_more c.margin_line.result.bytes c.loop-margin.invariant c.margin_line.ensures c.deref.ensures c.push_str.ensures.bytes
