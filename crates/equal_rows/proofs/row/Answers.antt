-- A candidate more is tried; once all are, row m is found.
use Rattle.std.proofs.Common.{◌≡◌, ◌∙◌, List, ℕ, ◌+◌, ◌≤◌, ◌<◌, length, take, length-set, length-take-le, arith}
use Rattle.std.proofs.lemmas.List.{get_or-take}
use Rattle.day.specs.Sums.{at}
use Rattle.equal_runs.specs.Bounds.{marker}
use Rattle.equal_rows.specs.Rows.{Areas, areas, sized_as}
use Rattle.equal_rows.specs.Consider.{Considered}
use Rattle.equal_rows.specs.Constant.{constant_problem}
use Rattle.equal_rows.proofs.Trying.{next_try, row_now, all_tried, less_left}
use Rattle.equal_rows.proofs.row.Goals as goal

-- the loop goes over the demands of as many periods
inside_of : (demand : List ℕ) {m l : ℕ} → m ≤ length demand → l < length (take m demand) → l < m
inside_of demand le lt = omega (arith, length-take-le _ demand le)

demanded : (demand : List ℕ) {m l x : ℕ} → m ≤ length demand → l < length (take m demand) → x ≡ at (take m demand) l → x ≡ at demand l
demanded demand {m = m} {l = l} le lt e = e ∙ get_or-take m demand l 0 (inside_of demand le lt)

pub consider-requires : goal.consider-requires
consider-requires c =
    let a = c.args in
    let m : ℕ = length a.slots.now in
    let p = constant_problem a.p in
    let inv = c.loop-l.invariant in
    let size = length-set a.costs.now m marker in
    let now : Areas = areas c.loop-l.costs c.loop-l.choices in
    let inside = inside_of a.p.problem.demand.now c.requires.inside c.loop-l-test.true in
    rw c.loop-l.auto.slots
    (record {
      before = inside;
      inside = c.requires.inside;
      rest = inv.rest;
      sized = sized_as {b = now} c.requires.sized (omega arith) (omega arith);
      row = row_now p a.p.full m c.loop-l.l (areas a.costs.now a.choices.now) now inside c.requires.inside inv.tried
          (c.requires.rows c.loop-l.l inside);
      best = inv.tried.best;
    })

pub overflow_sub-left : goal.overflow_sub-left
overflow_sub-left c =
    let a = c.args in
    let p = constant_problem a.p in
    let inside = inside_of a.p.problem.demand.now c.requires.inside c.loop-l-test.true in
    rw (demanded a.p.problem.demand.now c.requires.inside c.loop-l-test.true c.from-left.ensures)
    (less_left p a.p.full (length a.slots.now) c.loop-l.l _ inside c.loop-l.invariant.rest).0

pub loop-l-preserved : goal.loop-l-preserved
loop-l-preserved c =
    let a = c.args in
    let m : ℕ = length a.slots.now in
    let p = constant_problem a.p in
    let inv = c.loop-l.invariant in
    let l : ℕ = c.loop-l.l in
    let now : Areas = areas c.loop-l.costs c.loop-l.choices in
    let next : Areas = areas c.consider.new.costs c.consider.new.choices in
    let more : Considered p a.p.full m (l + 1) now next = rw c.loop-l.auto.slots at c.consider.ensures in
    let inside = inside_of a.p.problem.demand.now c.requires.inside c.loop-l-test.true in
    record {
      rest = rw (demanded a.p.problem.demand.now c.requires.inside c.loop-l-test.true c.from-left.ensures) (less_left p a.p.full m l _ inside inv.rest).1;
      tried = next_try p _ m l _ _ now next inv.tried more;
    }

pub returns : goal.returns
returns c =
    let a = c.args in
    let p = constant_problem a.p in
    let inv = c.loop-l.invariant in
    all_tried p _ (length a.slots.now) c.loop-l.l (areas a.costs.now a.choices.now) _ c.args.p.constant c.requires.some c.requires.inside
    (omega (arith, length-take-le (length a.slots.now) a.p.problem.demand.now c.requires.inside)) inv.tried
