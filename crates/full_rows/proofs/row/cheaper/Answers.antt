-- std's order of numbers is the theory's.
use Rattle.std.proofs.Common.{◌∙◌, rules}
use Rattle.std.proofs.lemmas.List.Sorted.{answers_always}
use Rattle.theory.specs.Basics.{picked}
use Rattle.full_rows.specs.declared.Choice.{Choice}
use Rattle.full_rows.proofs.row.cheaper.Goals as goal

pub returns : goal.returns
returns c =
    let e = c.min_by_key.ensures (λ (choice : Choice). choice.price) (answers_always _ _ _ (λ f a r g h. search rules)) in
    e ∙ picked c.args.b.price c.args.a.price c.args.a c.args.b
