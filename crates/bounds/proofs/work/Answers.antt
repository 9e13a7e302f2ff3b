-- The full path's work on the lowest needs, then on the highest: the tests admit both days, with slots of the caller's own.
use Rattle.std.proofs.Common.{[], ◌≡◌, ℕ, arith, length-take}
use Rattle.day.specs.declared.Sizes.{Sizes}
use Rattle.day.specs.declared.Totals.{Totals}
use Rattle.day.specs.Day.{Day}
use Rattle.day.specs.Lent.{lent_day}
use Rattle.day.specs.Outcome.{Memory, sizes_of, memory_of, Accepted}
use Rattle.day.specs.Paths.{full}
use Rattle.checks.specs.Passed.{Admitted}
use Rattle.range_checks.specs.Passed.{all_passed}
use Rattle.bounds.specs.Both.{low_admitted, high_admitted, both_bounded}
use Rattle.bounds.proofs.work.Goals as goal
use Rattle.bounds.proofs.work.Goals.{Start}

-- a lent day with other needs is the day with them
admitted_as : {d e : Day} {s : Sizes} → e ≡ d → Admitted full d s → Admitted full e s
admitted_as q a = rw q a

accepted_as : {d e : Day} {t : Totals} {before after : Memory} → e ≡ d → Accepted full e t before after → Accepted full d t before after
accepted_as q a = rw q at a

abbrev given : Start → Day
given c = lent_day c.args.day

abbrev lent : Start → Sizes
lent c = sizes_of (memory_of c.args.costs.now c.args.choices.now [])

pub work-low-requires : goal.work-low-requires
work-low-requires c =
    let s = (goal.at.work-low-requires c).Start in
    let t = all_passed s.args.lowest.now (given s) (lent s) s.requires in
    let few = t.0.day.limits.few in
    admitted_as c.with_demand.ensures (low_admitted t.0 t.1 _ (omega arith) (omega arith) (omega (arith, c.periods.ensures, length-take {A = ℕ})))

pub work-high-requires : goal.work-high-requires
work-high-requires c =
    let s = (goal.at.work-high-requires c).Start in
    let t = all_passed s.args.lowest.now (given s) (lent s) s.requires in
    let few = t.0.day.limits.few in
    high_admitted t.0 t.1 _ (omega arith) (omega arith) (omega (arith, c.periods.ensures, length-take {A = ℕ}))

pub returns : goal.returns
returns c =
    let s = (goal.at.returns c).Start in
    let t = all_passed s.args.lowest.now (given s) (lent s) s.requires in
    both_bounded t.0 t.1 (accepted_as c.with_demand.ensures c.work-low.ensures) c.work-high.ensures
