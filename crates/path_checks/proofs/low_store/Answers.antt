-- The first store limit below R + Z is the first that is tight.
use Rattle.std.proofs.Common.{◌≡◌, refl, sym, ◌∙◌, ltb, rules}
use Rattle.std.proofs.lemmas.Iterator.{YieldsList-from_slice}
use Rattle.std.proofs.lemmas.Iterator.Search.{position_from_yields_List}
use borrow.Author.Tests.{tests}
use Rattle.day.specs.declared.Refusal.TheVariants.{LowStore}
use Rattle.day.specs.Day.{periods, required}
use Rattle.day.specs.Find.{find}
use Rattle.day.specs.Lent.{lent_day}
use Rattle.day.specs.Refusals.{tight}
use Rattle.checks.specs.Search.{first_refused, find_position}
use Rattle.path_checks.proofs.low_store.Goals as goal
use Rattle.path_checks.proofs.low_store.Goals.{After-position-found}

found : (c : After-position-found) → find (tight (lent_day c.args.day)) (periods (lent_day c.args.day)) ≡ c.position-found.result
found c =
    let store = c.args.day.store.now in
    let first =
    position_from_yields_List (λ s. ltb s (required (lent_day c.args.day))) _ _ _ c.position-found.ensures.ran (YieldsList-from_slice store (search rules))
    (λ b t q k. search (rules, tests)) in
    find_position (tight (lent_day c.args.day)) (λ s. ltb s (required (lent_day c.args.day))) store 0 (λ k l. refl) c.requires.lengths.store ∙ sym first

pub returns : goal.returns
returns c =
    let e = found (goal.at.returns c).After-position-found in
    rw e (first_refused LowStore c.position-found.result c.unless_found.ensures (λ h. search rules) (λ i h. search rules))
