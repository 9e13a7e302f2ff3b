-- With all capacities allowed there is a plan, which is kept.
use Rattle.day.specs.Lent.{lent_day}
use Rattle.drops.proofs.Stepping.{some_plan, begun}
use Rattle.drops.proofs.begin_in_cells.Goals as goal

pub unwrap-cost-requires : goal.unwrap-cost-requires
unwrap-cost-requires c =
    let r = c.args.ready in
    some_plan (lent_day r.day) _ _ _ _ _ _ r.ready c.requires _ _ c.copy_from_slice.ensures.after c.trial.result c.trial.ensures

pub returns : goal.returns
returns c =
    let r = c.args.ready in
    begun (lent_day r.day) _ _ _ _ _ _ r.ready c.requires _ _ c.copy_from_slice.ensures.after _ _ _ (c.fill.ensures.after (λ y e. e))
    c.keep.ensures (rw c.unwrap-cost.ensures at c.trial.ensures) c.trial.auto.plan
