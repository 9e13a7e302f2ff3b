-- R and what must have been made of the periods passed, whose net needs are filled in.
use Rattle.day.specs.Lent.{lent_day}
use Rattle.net.proofs.Needs.{Filling}
use Rattle.net.proofs.fill_needs.Given as goal

abbrev pub invariant-loop-i : goal.invariant-loop-i
invariant-loop-i l = Filling (lent_day l.day) l.net l.demanded l.made l.i
