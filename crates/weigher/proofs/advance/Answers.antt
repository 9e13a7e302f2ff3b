-- The entries at index i are the period's, and the sums are within the bounds that tables of these widths keep.
use Rattle.std.proofs.Common.{add-one, arith}
use Rattle.day.specs.Sums.{at}
use Rattle.day.specs.Lent.{lent_day}
use Rattle.weigher.specs.Walk.{ruling_is}
use Rattle.weigher.proofs.Bounds.{Wide, sums_low}
use Rattle.weigher.proofs.advance.Goals as goal

pub judge-requires : goal.judge-requires
judge-requires c =
    let a = c.args in
    let d = lent_day a.day in
    let wide : Wide d (at a.plan.now) = record { tables = a.day.widths; amount = c.type_inv.plan } in
    rw c.requires.sums (sums_low d (at a.plan.now) wide c.requires.opening a.i (omega arith) c.requires.served)

pub returns : goal.returns
returns c =
    let a = c.args in
    let d = lent_day a.day in
    rw (c.judge.ensures, c.entries.ensures, c.periods.ensures, add-one, c.requires.sums) (ruling_is d (at a.plan.now) a.i)
