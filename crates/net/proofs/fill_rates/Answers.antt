-- The rates as filled in are the table's.
use Rattle.std.proofs.Common.{sym, arith}
use Rattle.day.specs.Sums.{list_of-at}
use Rattle.theory.specs.Net.{rate_of}
use Rattle.net.proofs.fill_rates.Goals as goal

pub returns : goal.returns
returns c =
    let w = c.loop-i.invariant in
    sym (list_of-at _ c.loop-i.rates (rate_of c.args.holding.now) w.size (λ k l. sym (w.each k (omega (arith, c.loop-i-test.false)) l)))
