-- The search goes on by the laws of `Candidates`: it is left where no earlier candidate can be cheaper, a candidate is dropped once it passes the
-- best, and one that is summed to its end is compared with it.
use Rattle.std.proofs.Common.{◌≡◌, refl, ℕ, suc, ◌+◌, ◌-◌, ◌<◌, List, arith}
use Rattle.day.specs.Sums.{at}
use Rattle.theory.specs.Problem.{Problem}
use Rattle.uncapped_rows.specs.declared.LastLot.{LastLot}
use Rattle.uncapped_rows.specs.declared.Holding.{Holding}
use Rattle.uncapped_rows.specs.Bounds.{LotFits}
use Rattle.uncapped_rows.specs.Rows.{NextRowReady}
use Rattle.uncapped_rows.proofs.Candidates.{SearchedTo, lot_fits, carried_cell, sum_fits, summed_more, searched_inside, searched_left, lot_more}
use Rattle.uncapped_rows.proofs.Candidates.{searched_dropped, searched_more}
use Rattle.uncapped_rows.proofs.cheapest.Goals as goal

pred_is : {a b : ℕ} → a < b → b ≡ suc (b - 1)
pred_is lt = omega arith

back : (l : ℕ) → 0 < l → l - 1 + 1 ≡ l
back l pos = omega arith

-- the lot of the next candidate
next_fits : {p : Problem} {costs : List ℕ} {m : ℕ} (ready : NextRowReady p costs m)
    → {l made i : ℕ} {s : Holding} {best : LastLot} → SearchedTo p (at costs) m l made i s best → 0 < l
    → LotFits costs (l - 1) (made + at p.demand (l - 1))
next_fits ready t pos = lot_fits ready _ _ (omega (arith, searched_inside ready t)) (lot_more ready t _ (pred_is pos))

pub carried_cost-requires-clause-l_in_bounds : goal.carried_cost-requires-clause-l_in_bounds
carried_cost-requires-clause-l_in_bounds c =
    let ready = c.requires.ready in
    carried_cell ready c.args.p.carries _ (omega (arith, searched_inside ready c.candidates.invariant))

pub carried_cost-requires-clause-lot_fits : goal.carried_cost-requires-clause-lot_fits
carried_cost-requires-clause-lot_fits c =
    let ready = c.requires.ready in
    let t = c.candidates.invariant in
    rw (back c.candidates.l c.candidates-test.true) (lot_fits ready _ _ (searched_inside ready t) t.lot)

pub returns-then-best-carried_cost : goal.returns-then-best-carried_cost
returns-then-best-carried_cost c =
    searched_left c.requires.ready c.candidates.invariant c.args.p.carries
    (omega (arith, rw (back c.candidates.l c.candidates-test.true) at c.carried_cost.ensures.is, c.if-best-carried_cost.true))

pub overflow_add-made : goal.overflow_add-made
overflow_add-made c = let fits = next_fits c.requires.ready c.candidates.invariant c.candidates-test.true in omega (arith, fits.few)

pub lot_cost-paid-requires-clause-lot_fits : goal.lot_cost-paid-requires-clause-lot_fits
lot_cost-paid-requires-clause-lot_fits c =
    rw c.from-made-in-candidates.ensures (next_fits c.requires.ready c.candidates.invariant c.candidates-test.true)

pub candidates-preserved-then-best-paid : goal.candidates-preserved-then-best-paid
candidates-preserved-then-best-paid c =
    let demanded = c.from-made-in-candidates.ensures in
    rw demanded
    (searched_dropped c.requires.ready c.candidates.invariant _ (pred_is c.candidates-test.true) (rw demanded at c.lot_cost-paid.ensures.is)
    c.loop-k.invariant.2 c.loop-k.invariant.1 c.if-best-paid.true)

pub hold-s-requires : goal.hold-s-requires
hold-s-requires c =
    let i = c.loop-k.invariant in
    sum_fits c.requires.ready _ _ (pred_is c.loop-k-test.true) (rw i.0 at i.2)

pub loop-k-preserved : goal.loop-k-preserved
loop-k-preserved c =
    let i = c.loop-k.invariant in
    (refl, omega arith, rw c.hold-s.ensures (summed_more c.requires.ready _ _ (pred_is c.loop-k-test.true) (rw i.0 at i.2)))

pub candidates-preserved : goal.candidates-preserved
candidates-preserved c =
    let i = c.loop-k.invariant in
    let demanded = c.from-made-in-candidates.ensures in
    rw (c.cheaper-best.ensures, demanded)
    (searched_more c.requires.ready c.candidates.invariant _ (pred_is c.candidates-test.true) (rw demanded at c.lot_cost-paid.ensures.is) i.2
    (omega arith) (omega arith))
