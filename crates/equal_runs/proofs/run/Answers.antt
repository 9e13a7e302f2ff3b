-- What `start` gives is the row of no period; a period more by `turn`.
use Rattle.std.proofs.Common.{◌≡◌, ◌∙◌, ◌+◌, ◌-◌, ◌*◌, ℕ, suc, ap, arith, length, length-take-le}
use Rattle.std.proofs.Math.Nat.{mul-le-mul_right}
use Rattle.day.specs.Sums.{at, sum_to}
use Rattle.equal_runs.specs.Told.{Narrow}
use Rattle.equal_runs.specs.Run.{row_low}
use Rattle.theory.specs.Parts.{part_size}
use Rattle.equal_runs.proofs.Running.{advanced_behind, ran_started, ran_longer, turn}
use Rattle.equal_runs.proofs.run.Goals as goal

pub loop-k-init : goal.loop-k-init
loop-k-init c =
    let a = c.args in
    let z : a.l + 0 ≡ a.l = omega arith in
    let states = length-take-le (a.top + 1) a.row.now (omega arith) in
    record {
      sums = omega (arith, ap (sum_to (at a.problem.demand.now)) z);
      low = omega arith;
      ran = ran_started _ _ _ _ _ _ _ _ states c.start.ensures;
      size = c.start.ensures.size ∙ states;
    }

pub advance-requires : goal.advance-requires
advance-requires c =
    let inv = c.loop-k.invariant in
    let next = mul-le-mul_right c.args.width c.loop-k-test.true in
    let top : length c.loop-k.states - 1 ≡ c.args.top = omega (arith, inv.size) in (
      rw top (row_low _ _ _ c.loop-k.k _ _ _ _ inv.ran (omega arith) (omega arith)),
      omega (arith, inv.size),
      omega (arith, inv.size, part_size c.loop-k.picks (c.loop-k.k * c.args.width)),
    )

pub loop-k-preserved : goal.loop-k-preserved
loop-k-preserved c =
    let a = c.args in
    let inv = c.loop-k.invariant in
    let k : ℕ = c.loop-k.k in
    let next : a.l + (k + 1) ≡ suc (a.l + k) = omega arith in
    let row_end = mul-le-mul_right a.width c.loop-k-test.true in
    let top : length c.loop-k.states - 1 ≡ a.top = omega (arith, inv.size) in
    let p = c.period_at-p.result in
    let e = rw c.from-due.ensures at c.period_at-p.ensures in
    let narrow : Narrow p a.sizes = record { setup = omega arith; unit = omega arith; holding = omega arith; full = omega arith; part = omega arith } in
    record {
      sums = omega (arith, inv.sums, ap (sum_to (at a.problem.demand.now)) next);
      low = omega (arith, inv.low);
      ran = turn a.problem a.l k a.sizes a.top a.width c.loop-k.due
          c.loop-k.states c.loop-k.picks _ _ p (omega arith) c.requires.low c.requires.wide narrow
          inv.sums e inv.ran (advanced_behind p a.sizes a.top (k * a.width) _ _ _ _ (omega (arith, row_end)) (omega (arith, row_end))
          (rw top at c.advance.ensures));
      size = c.advance.ensures.costs.size ∙ inv.size;
    }

pub returns : goal.returns
returns c =
    let inv = c.loop-k.invariant in
    let all : c.loop-k.k ≡ c.args.count = omega arith in
    ran_longer _ _ _ _ _ _ _ _ _ (omega (arith, inv.size)) (rw all at inv.ran)
