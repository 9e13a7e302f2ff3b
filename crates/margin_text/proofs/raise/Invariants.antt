-- After i turns the needs of the first i periods are there.
use Rattle.day.specs.Sums.{at}
use Rattle.margin_text.specs.Margins.{raised}
use Rattle.margin_text.specs.Laws.{Listed}
use Rattle.margin_text.proofs.raise.Given as goal

abbrev pub invariant-loop-need : goal.invariant-loop-need
invariant-loop-need l = Listed (λ k. raised l.margin (at l.demand k)) l.need-index l.needs.items
