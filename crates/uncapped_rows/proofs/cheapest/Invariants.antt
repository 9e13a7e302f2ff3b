-- The search has come down to candidate l; of the upkeep, that down to i is summed.
use Rattle.std.proofs.Common.{◌≡◌, ◌≤◌}
use Rattle.day.specs.Sums.{at}
use Rattle.uncapped_rows.specs.Bounds.{lent_uncapacitated}
use Rattle.uncapped_rows.proofs.Candidates.{SummedTo, SearchedTo}
use Rattle.uncapped_rows.proofs.cheapest.Given as goal

abbrev pub invariant-loop-k : goal.invariant-loop-k
invariant-loop-k l = (l.i ≡ l.k) × (l.l ≤ l.i) × SummedTo (lent_uncapacitated l.p.problem) l.m l.i l.s

abbrev pub invariant-candidates : goal.invariant-candidates
invariant-candidates l =
    SearchedTo (lent_uncapacitated l.p.problem) (at l.costs) l.m l.l l.made l.i l.s l.best
