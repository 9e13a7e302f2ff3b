-- The ceilings as filled in are the day's.
use Rattle.std.proofs.Common.{sym, arith}
use Rattle.day.specs.Sums.{list_of-at}
use Rattle.day.specs.Lent.{lent_day}
use Rattle.theory.specs.Store.{ceiling_at}
use Rattle.net.proofs.fill_ceilings.Goals as goal

pub returns : goal.returns
returns c =
    let w = c.loop-i.invariant in
    sym (list_of-at _ c.loop-i.ceilings (ceiling_at (lent_day c.args.day)) w.size (λ k l. sym (w.each k (omega arith))))
