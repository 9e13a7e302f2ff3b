-- The period is forbidden for the trial, and after it as the rule says.
use Rattle.std.proofs.Common.{◌≡◌, ◌<◌, ◌≤◌, Some, rules, tests}
use Rattle.std.specs.Prelude.{IfSome}
use Rattle.day.specs.Lent.{lent_day}
use Rattle.drops.proofs.Stepping.{step_cheaper, step_undone}
use Rattle.drops.proofs.step.Goals as goal

pub returns-in-Some : goal.returns-in-Some
returns-in-Some c =
    let a = c.args in
    let came : c.trial-outcome.result ≡ Some c.in-Some.cost = search (rules, tests) in
    let less : c.in-Some.cost < a.s.cost = search (rules, tests) in
    step_cheaper (lent_day a.ready.day) _ _ _ _ a.s a.turn c.requires.held c.requires.next_is _ c.trial-outcome.auto.plan _ c.trial-outcome.ensures _ _
    came less c.keep.ensures

pub returns : goal.returns
returns c =
    let a = c.args in
    let dear : IfSome c.trial-outcome.result (λ t. a.s.cost ≤ t) = search (rules, tests) in
    step_undone (lent_day a.ready.day) _ _ _ _ a.s a.turn c.requires.held c.requires.next_is _ c.trial-outcome.auto.plan _ c.trial-outcome.ensures dear
