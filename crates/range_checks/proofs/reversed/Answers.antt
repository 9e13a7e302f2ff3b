-- What the search over both tables finds is the first lowest need above its highest.
use Rattle.std.proofs.Common.{◌≡◌, ℕ, Bool, sym, ap, ◌∙◌, length, ltb, rules, arith}
use Rattle.std.specs.List.{zip}
use Rattle.std.proofs.lemmas.Iterator.{YieldsList-from_slice, YieldsList-from_zip}
use Rattle.std.proofs.lemmas.Iterator.Search.{position_from_yields_List}
use Rattle.std.proofs.lemmas.Slice.Zip.{length-zip, get_or-zip}
use borrow.Author.Tests.{tests}
use Rattle.day.specs.declared.Refusal.TheVariants.{ReversedRange}
use Rattle.day.specs.Day.{periods}
use Rattle.day.specs.Find.{find}
use Rattle.day.specs.Lent.{lent_day}
use Rattle.day.specs.Refusals.{reverses}
use Rattle.checks.specs.Search.{first_refused, find_position}
use Rattle.range_checks.proofs.reversed.Goals as goal
use Rattle.range_checks.proofs.reversed.Goals.{After-position-found}

found : (c : After-position-found) → find (reverses c.args.lowest.now (lent_day c.args.day)) (periods (lent_day c.args.day)) ≡ c.position-found.result
found c =
    let lowest = c.args.lowest.now in
    let demand = c.args.day.demand.now in
    let size = c.requires.lowest_len in
    let test : ℕ × ℕ → Bool = λ p. ltb p.1 p.0 in
    let long : length (zip lowest demand) ≡ length demand = omega (arith, length-zip lowest demand) in
    let first =
    position_from_yields_List test c.position-found.new.self _ c.position-found.result c.position-found.ensures.ran
    (YieldsList-from_zip (YieldsList-from_slice lowest (search rules)) (YieldsList-from_slice demand (search rules)))
    (λ x b q k. search (rules, tests)) in
    find_position (reverses lowest (lent_day c.args.day)) test (zip lowest demand) (0, 0)
    (λ k l. ap test (get_or-zip lowest demand k (0, 0) (omega arith) (omega arith))) long
    ∙ sym first

pub returns : goal.returns
returns c =
    let e = found (goal.at.returns c).After-position-found in
    rw e (first_refused ReversedRange c.position-found.result c.unless_found.ensures (λ h. search rules) (λ i h. search rules))
