-- std's order of numbers is the theory's.
use Rattle.std.proofs.Common.{◌∙◌, rules}
use Rattle.std.proofs.lemmas.List.Sorted.{answers_always}
use Rattle.theory.specs.Basics.{picked}
use Rattle.equal_runs.specs.declared.RunState.{RunState}
use Rattle.equal_runs.proofs.cheaper.Goals as goal

pub returns : goal.returns
returns c =
    let e = c.min_by_key.ensures (λ (state : RunState). state.cost) (answers_always _ _ _ (λ f a r g h. search rules)) in
    e ∙ picked c.args.b.cost c.args.a.cost c.args.a c.args.b
