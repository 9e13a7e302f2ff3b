-- Once all cells are filled in, they hold what is carried into each period.
use Rattle.std.proofs.Common.{sym, arith}
use Rattle.day.specs.Sums.{at, list_of-at}
use Rattle.theory.specs.Carried.{carried_to}
use Rattle.uncapped_rows.proofs.fill_carried.Goals as goal

pub returns : goal.returns
returns c =
    let into = carried_to (at c.args.unit.now) (at c.args.holding.now) in
    sym (list_of-at _ c.loop-l.carried into (omega arith) (λ k h. sym (c.loop-l.invariant.1 k (omega arith))))
