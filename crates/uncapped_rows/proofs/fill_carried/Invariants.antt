-- The cells before l are filled in, and what goes into cell l is at hand.
use Rattle.std.proofs.Common.{◌≡◌, ℕ, ◌<◌}
use Rattle.day.specs.Sums.{at}
use Rattle.theory.specs.Carried.{carried_to}
use Rattle.uncapped_rows.proofs.fill_carried.Given as goal

abbrev pub invariant-loop-l : goal.invariant-loop-l
invariant-loop-l l =
    let into = carried_to (at l.unit) (at l.holding) in
    (l.least ≡ into l.l) × ((k : ℕ) → k < l.l → at l.carried k ≡ into k)
