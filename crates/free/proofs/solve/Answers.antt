-- By the keys in the cells, from cleared slots, the rule finds the plan.
use Rattle.std.proofs.Common.{arith}
use Rattle.std.proofs.lemmas.Grind.{common_steps}
use Rattle.theory.specs.Problem.{lent_problem}
use Rattle.free.proofs.Solving.{served, solved}
use Rattle.free.proofs.solve.Goals as goal

pub unwrap-requires : goal.unwrap-requires
unwrap-requires c = served (lent_problem c.args.p) _ c.requires _ _ _ _ c.keys.ensures (grind (arith, common_steps)) c.serve_all.ensures

pub returns : goal.returns
returns c = solved (lent_problem c.args.p) _ c.requires _ _ _ _ c.keys.ensures (grind (arith, common_steps)) c.serve_all.ensures
