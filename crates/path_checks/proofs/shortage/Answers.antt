-- A period that A alone makes short, or what must have been made, is the first that is.
use Rattle.std.proofs.Common.{◌≡◌, refl, true, ℕ, suc, ◌+◌, ◌≤◌, ◌<◌, add-one, arith}
use borrow.Author.Tests.{lt-ltb, le-ltb}
use Rattle.day.specs.declared.Refusal.TheVariants.{Shortage}
use Rattle.day.specs.Sums.{at}
use Rattle.day.specs.Lent.{lent_day}
use Rattle.day.specs.Day.{Day, demand_to, net_to}
use Rattle.day.specs.Refusals.{most_to, short}
use Rattle.checks.specs.Search.{refused_here}
use Rattle.path_checks.proofs.shortage.Goals as goal
use Rattle.path_checks.proofs.shortage.Goals.{then-overfull-via-then-overfull, then-overfull-via-else-overfull+then-most-net_to}

-- a period is short by A alone, or by what must have been made
short_store : (d : Day) (i : ℕ) → demand_to d (suc i) + at d.store i < d.opening → short d i ≡ true
short_store d i l = rw (lt-ltb (demand_to d (suc i) + at d.store i) d.opening l) refl

short_made : (d : Day) (i : ℕ) → d.opening ≤ demand_to d (suc i) + at d.store i → most_to d (suc i) < net_to d (suc i) → short d i ≡ true
short_made d i room l =
    rw (le-ltb (demand_to d (suc i) + at d.store i) d.opening room, lt-ltb (most_to d (suc i)) (net_to d (suc i)) l) refl

pub returns-then-overfull : goal.returns-then-overfull
returns-then-overfull c =
    let d = lent_day c.args.day in
    let i = c.loop-i.i in
    let summed : c.loop-i.demanded + at d.demand i ≡ demand_to d (suc i) = omega arith in
    let reached : c.min-most.result ≡ most_to d (suc i) = omega (arith, c.min-most.ensures, c.saturating_sub.ensures, c.loop-i.invariant.2.is, summed) in
    refused_here c.loop-i.invariant.0 Shortage
    (elim c.then-overfull.branch [
      | then-overfull-via-then-overfull w ↦ short_store d i (omega arith)
      | then-overfull-via-else-overfull+then-most-net_to w ↦
          let net : w.net_to.result ≡ net_to d (suc i) = rw (c.from-demanded.ensures, add-one, summed, c.periods-n.ensures) at w.net_to.ensures in
          short_made d i (omega arith) (omega arith)
    ])
    (omega arith)
