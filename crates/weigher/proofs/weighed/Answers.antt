-- The tests give the first refusal; a plan that passes them is walked.
use Rattle.std.proofs.Common.{refl, sym, subst}
use Rattle.day.specs.Sums.{at}
use Rattle.day.specs.Lent.{lent_day}
use Rattle.day.specs.Tests.{passed, refused, is_gives}
use Rattle.weigher.specs.Answers.{Weighs, weigh_refusal}
use Rattle.weigher.proofs.Faults.{from_refused, from_broken, walked}
use Rattle.weigher.proofs.weighed.Goals as goal

pub returns-in_err-tests : goal.returns-in_err-tests
returns-in_err-tests c =
    let d = lent_day c.args.day.now in
    let plan = c.args.plan.now in
    subst (Weighs d plan) (sym (from_refused c.from_residual.result _ c.from_residual.ensures.1))
    (is_gives (refused (weigh_refusal d plan) c.tests.ensures c.in_err-tests.was))

pub returns-in_err-walk : goal.returns-in_err-walk
returns-in_err-walk c =
    let d = lent_day c.args.day.now in
    let plan = c.args.plan.now in
    subst (Weighs d plan) (sym (from_broken c.from_residual-in_err-walk.result _ c.from_residual-in_err-walk.ensures.1))
    (passed (weigh_refusal d plan) c.tests.ensures c.in_ok-tests.was, rw (walked d (at plan) c.walk.ensures c.in_err-walk.was) refl)

pub returns : goal.returns
returns c =
    let d = lent_day c.args.day.now in
    let plan = c.args.plan.now in
    (passed (weigh_refusal d plan) c.tests.ensures c.in_ok-tests.was, rw (walked d (at plan) c.walk.ensures c.in_ok-walk.was) refl)
