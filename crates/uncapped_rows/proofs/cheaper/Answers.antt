-- std's order of numbers is that of `better`.
use Rattle.std.proofs.Common.{◌∙◌, rules}
use Rattle.std.proofs.lemmas.List.Sorted.{answers_always}
use Rattle.theory.specs.Basics.{picked_le}
use Rattle.uncapped_rows.specs.declared.LastLot.{LastLot}
use Rattle.uncapped_rows.specs.Rows.{better}
use Rattle.uncapped_rows.proofs.cheaper.Goals as goal

pub returns : goal.returns
unfolding better
returns c =
    let e = c.min_by_key.ensures (λ (lot : LastLot). lot.cost) (answers_always _ _ _ (λ f a r g h. search rules)) in
    e ∙ picked_le c.args.best.cost c.args.price _ c.args.best
