-- The costs of both answers fit by the widths of the tables.
use Rattle.std.proofs.Common.{List, ℕ}
use Rattle.day.specs.Sums.{at}
use Rattle.day.specs.Day.{Day}
use Rattle.day.specs.Lent.{lent_day}
use Rattle.weigher.specs.Answers.{Weighed, Weighs, weighs_is, compares}
use Rattle.weigher.specs.Walk.{Signed}
use Rattle.weigher.proofs.Bounds.{Wide, weighed_signed}
use Rattle.weigher.proofs.compare.Goals as goal

signed : (d : Day) (plan : List ℕ) (w : Weighed) → Wide d (at plan) → Weighs d plan w → Signed w
signed d plan w wide promised = rw (weighs_is d plan w promised) (weighed_signed d plan wide)

pub comparison-requires : goal.comparison-requires
comparison-requires c =
    let a = c.args in
    let d = lent_day a.day in
    let tables = a.day.widths in (
      signed d a.plan.now c.weighed-first.result (record { tables = tables; amount = c.type_inv.plan }) c.weighed-first.ensures,
      signed d a.other.now c.weighed-second.result (record { tables = tables; amount = c.type_inv.other }) c.weighed-second.ensures,
    )

pub returns : goal.returns
returns c =
    let a = c.args in
    compares
    (lent_day a.day) a.plan.now a.other.now c.weighed-first.result c.weighed-second.result c.comparison.result
    c.weighed-first.ensures c.weighed-second.ensures c.comparison.ensures
