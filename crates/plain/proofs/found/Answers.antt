-- Where the weigher refuses the plan, or finds a rule broken, nothing is found.
use Rattle.std.proofs.Common.{sym, ap, ◌∙◌, List, ℕ}
use Rattle.day.specs.Lent.{lent_day}
use Rattle.weigher.specs.Answers.{weighs_is, weighed_of}
use Rattle.plain.specs.Search.{found_of}
use Rattle.plain.proofs.found.Goals as goal

pub returns-in-Err : goal.returns-in-Err
returns-in-Err c =
    let d = lent_day c.args.day in
    let plan = c.plan_of-plan.result in
    let weighed = weighs_is d plan c.weigh.result c.weigh.ensures in
    ap (found_of plan) (sym c.in-Err.is ∙ weighed) ∙ ap (λ (p : List ℕ). found_of p (weighed_of d p)) c.plan_of-plan.ensures
