-- R of the periods passed, whose ceilings are filled in.
use Rattle.day.specs.Lent.{lent_day}
use Rattle.net.proofs.Ceilings.{Filling}
use Rattle.net.proofs.fill_ceilings.Given as goal

abbrev pub invariant-loop-i : goal.invariant-loop-i
invariant-loop-i l = Filling (lent_day l.day) l.ceilings l.demanded l.i
