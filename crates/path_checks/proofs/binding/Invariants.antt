-- R of the periods passed, none of whose capacities may bind.
use Rattle.std.proofs.Common.{◌*◌}
use Rattle.day.specs.Sums.{Term, at, sum_to}
use Rattle.day.specs.Day.{periods, max_capacity}
use Rattle.day.specs.Lent.{lent_day}
use Rattle.day.specs.Refusals.{binds}
use Rattle.checks.specs.Search.{Searched}
use Rattle.path_checks.proofs.binding.Given as goal

abbrev pub invariant-loop-i : goal.invariant-loop-i
invariant-loop-i l =
    Searched (binds (lent_day l.day)) (periods (lent_day l.day)) l.i
    × Term (sum_to (at l.day.demand.now) l.i) (max_capacity * l.i) l.demanded
