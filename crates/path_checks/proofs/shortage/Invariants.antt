-- R of the periods passed, none of which is short, and the most that can have been made in them.
use Rattle.std.proofs.Common.{◌*◌}
use Rattle.day.specs.Sums.{Term, at, sum_to}
use Rattle.day.specs.Day.{periods, max_capacity}
use Rattle.day.specs.Lent.{lent_day}
use Rattle.day.specs.Refusals.{most_to, short}
use Rattle.checks.specs.Search.{Searched}
use Rattle.path_checks.proofs.shortage.Given as goal

abbrev pub invariant-loop-i : goal.invariant-loop-i
invariant-loop-i l =
    Searched (short (lent_day l.day)) (periods (lent_day l.day)) l.i
    × Term (sum_to (at l.day.demand.now) l.i) (max_capacity * l.i) l.demanded
    × Term (most_to (lent_day l.day) l.i) (max_capacity * l.i) l.most
