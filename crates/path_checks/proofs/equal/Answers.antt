-- Whether a capacity differs from the first is whether one is found that does.
use Rattle.std.proofs.Common.{◌≡◌, refl, ◌∙◌, ap, ℕ, Bool, not, eqb, rules}
use Rattle.std.proofs.lemmas.Iterator.{YieldsList-from_slice}
use Rattle.std.proofs.lemmas.Iterator.Search.{any_from_yields_List}
use borrow.Author.Tests.{tests}
use Rattle.day.specs.declared.Refusal.TheVariants.{UnequalCapacities}
use Rattle.day.specs.Sums.{at}
use Rattle.day.specs.Lent.{lent_day}
use Rattle.day.specs.Refusals.{refuse, differs, unequal}
use Rattle.checks.specs.Search.{find_any}
use Rattle.path_checks.proofs.equal.Goals as goal
use Rattle.path_checks.proofs.equal.Goals.{After-any}

found : (c : After-any) → refuse c.any.result UnequalCapacities ≡ unequal (lent_day c.args.day)
found c =
    let capacity = c.args.day.capacity.now in
    let test : ℕ → Bool = λ k. not (eqb k (at capacity 0)) in
    let some =
    any_from_yields_List test _ _ _ c.any.ensures.ran (YieldsList-from_slice capacity (search rules))
    (λ k b q h. search (rules, tests)) in
    ap (λ b. refuse b UnequalCapacities) some
    ∙ find_any (differs (lent_day c.args.day)) test capacity 0 (λ k l. refl) UnequalCapacities c.requires.lengths.capacity

pub returns-then-any : goal.returns-then-any
returns-then-any c = let e = found (goal.at.returns-then-any c).After-any in rw (← e, c.if-any.true) refl

pub returns : goal.returns
returns c = let e = found (goal.at.returns c).After-any in rw (← e, c.if-any.false) refl
