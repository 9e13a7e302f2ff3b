-- The first setup cost above 0 is the first period's that has one.
use Rattle.std.proofs.Common.{◌≡◌, refl, sym, ◌∙◌, ltb, rules}
use Rattle.std.proofs.lemmas.Iterator.{YieldsList-from_slice}
use Rattle.std.proofs.lemmas.Iterator.Search.{position_from_yields_List}
use borrow.Author.Tests.{tests}
use Rattle.day.specs.declared.Refusal.TheVariants.{PaidSetup}
use Rattle.day.specs.Day.{periods}
use Rattle.day.specs.Find.{find}
use Rattle.day.specs.Lent.{lent_day}
use Rattle.day.specs.Refusals.{paid}
use Rattle.checks.specs.Search.{first_refused, find_position}
use Rattle.path_checks.proofs.paid.Goals as goal
use Rattle.path_checks.proofs.paid.Goals.{After-position-found}

found : (c : After-position-found) → find (paid (lent_day c.args.day)) (periods (lent_day c.args.day)) ≡ c.position-found.result
found c =
    let setup = c.args.day.setup.now in
    let first =
    position_from_yields_List (ltb 0) _ _ _ c.position-found.ensures.ran (YieldsList-from_slice setup (search rules))
    (λ b t q k. search (rules, tests)) in
    find_position (paid (lent_day c.args.day)) (ltb 0) setup 0 (λ k l. refl) c.requires.lengths.setup ∙ sym first

pub returns : goal.returns
returns c =
    let e = found (goal.at.returns c).After-position-found in
    rw e (first_refused PaidSetup c.position-found.result c.unless_found.ensures (λ h. search rules) (λ i h. search rules))
