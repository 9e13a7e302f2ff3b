-- The rates from i on are filled in.
use Rattle.net.proofs.Rates.{Filling}
use Rattle.net.proofs.fill_rates.Given as goal

abbrev pub invariant-loop-i : goal.invariant-loop-i
invariant-loop-i l = Filling l.holding l.rates l.next l.i
