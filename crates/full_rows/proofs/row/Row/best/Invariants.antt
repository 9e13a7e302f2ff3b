-- The smallest of the cheapest amounts tried so far.
use Rattle.day.specs.Sums.{at}
use Rattle.full_rows.proofs.Laws.{Scanned}
use Rattle.full_rows.proofs.row.Row.best.Given as goal

abbrev pub invariant-loop-amount : goal.invariant-loop-amount
invariant-loop-amount l = Scanned l.self.stage (at l.self.costs.now) l.total l.lowest l.highest l.amount l.best
