-- The first period with a value above its limit is the one whose entries have it.
use Rattle.std.specs.List.{range_with_len}
use Rattle.std.proofs.Common.{◌≡◌, sym, ap, ◌∙◌, rules, arith}
use Rattle.std.proofs.lemmas.Iterator.{YieldsList-from_range}
use Rattle.std.proofs.lemmas.Iterator.Search.{position_from_yields_List}
use Rattle.std.proofs.lemmas.List.FromFn.{get_or-range_with_len, length-range_with_len}
use borrow.Author.Tests.{tests}
use Rattle.day.specs.declared.Refusal.TheVariants.{AboveLimit}
use Rattle.day.specs.Day.{periods}
use Rattle.day.specs.Find.{find}
use Rattle.day.specs.Lent.{lent_day}
use Rattle.day.specs.Refusals.{above_limit}
use Rattle.checks.specs.Search.{first_refused, find_position}
use Rattle.checks.proofs.values.Goals as goal
use Rattle.checks.proofs.values.Goals.{After-position-found}

found : (c : After-position-found) → find (above_limit (lent_day c.args.day)) (periods (lent_day c.args.day)) ≡ c.position-found.result
found c =
    let n = periods (lent_day c.args.day) in
    let test = above_limit (lent_day c.args.day) in
    let long = length-range_with_len 0 n in
    let first =
    position_from_yields_List test _ _ _ c.position-found.ensures.ran (YieldsList-from_range 0 n n (search rules) (omega arith))
    (λ i b q k. search (rules, tests)) in
    find_position test test (range_with_len 0 n) 0 (λ k l. ap test (omega (arith, long, get_or-range_with_len 0 n k 0))) {n = n} long ∙ sym first

pub returns : goal.returns
returns c =
    let e = found (goal.at.returns c).After-position-found in
    rw e (first_refused AboveLimit c.position-found.result c.unless_found.ensures (λ h. search rules) (λ i h. search rules))
