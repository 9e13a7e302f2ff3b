-- The net needs as filled in are the day's.
use Rattle.std.proofs.Common.{sym, arith}
use Rattle.day.specs.Sums.{list_of-at}
use Rattle.day.specs.Lent.{lent_day}
use Rattle.theory.specs.Net.{net_need}
use Rattle.net.proofs.fill_needs.Goals as goal

pub returns : goal.returns
returns c =
    let w = c.loop-i.invariant in
    sym (list_of-at _ c.loop-i.net (net_need (lent_day c.args.day)) w.size (λ k l. sym (w.each k (omega arith))))
