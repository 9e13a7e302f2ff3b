-- One row more.
use Rattle.std.proofs.Common.{ap, ℕ, ◌+◌, length-take-le, length-set, add-one, arith}
use Rattle.theory.specs.Problem.{demand_to}
use Rattle.equal_rows.specs.Rows.{Areas, areas, sized_as}
use Rattle.equal_rows.specs.Consider.{RowFound}
use Rattle.equal_rows.specs.Constant.{constant_problem}
use Rattle.equal_rows.proofs.Done.{row_more}
use Rattle.equal_rows.proofs.rows.Goals as goal

pub loop-m-preserved : goal.loop-m-preserved
loop-m-preserved c =
    let a = c.args in
    let p = constant_problem a.p in
    let inv = c.loop-m.invariant in
    let m : ℕ = c.loop-m.m in
    let now : Areas = areas c.loop-m.costs c.loop-m.choices in
    let next : Areas = areas c.row.new.costs c.row.new.choices in
    let e = length-take-le (m + 1) c.loop-m.slots (omega arith) in
    let more : RowFound p (m + 1) now next = rw e at c.row.ensures in
    record {
      demanded = omega (arith, inv.demanded, ap (demand_to p) (add-one m));
      low = omega (arith, inv.low);
      rows = row_more p m now next c.loop-m-test.true inv.rows more;
    }

pub row-requires : goal.row-requires
row-requires c =
    let a = c.args in
    let p = constant_problem a.p in
    let inv = c.loop-m.invariant in
    let m : ℕ = c.loop-m.m in
    let next = ap (demand_to p) (add-one m) in
    rw (length-take-le (m + 1) c.loop-m.slots (omega arith))
    (record {
      some = omega arith;
      inside = omega arith;
      demanded = omega (arith, inv.demanded, next);
      sized = sized_as c.requires.sized (omega (arith, length-set a.costs.now 0 0)) (omega arith);
      rows = inv.rows;
    })
