-- After k turns the lines of the first k margins stand there.
use Rattle.day.specs.Sums.{at}
use Rattle.day.specs.Lent.{lent_day}
use Rattle.margin_text.specs.Laws.{MarginLines}
use Rattle.margin_text.proofs.margin_lines.Given as goal

abbrev pub invariant-loop-margin : goal.invariant-loop-margin
invariant-loop-margin l = MarginLines (lent_day l.day) (at l.actual) l.margin l.text.bytes
