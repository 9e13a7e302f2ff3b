-- What the tests refuse is the call's refusal.
use Rattle.std.proofs.Common.{refl, []}
use Rattle.std.proofs.lemmas.Result.{err_from_is_err_and}
use Rattle.day.specs.Lent.{lent_day}
use Rattle.day.specs.Tests.{is_gives, refused}
use Rattle.day.specs.Outcome.{sizes_of, memory_of}
use Rattle.day.specs.Ranges.{range_refusal}
use Rattle.bounds.proofs.least_costs.Goals as goal

pub returns-in_err-tests : goal.returns-in_err-tests
returns-in_err-tests c =
    let a = c.args in
    let o = range_refusal a.lowest.now (lent_day a.day) (sizes_of (memory_of a.costs.now a.choices.now [])) in
    let p = err_from_is_err_and c.from_residual.result c.from_residual.ensures.1 in
    rw (p.1, p.2) (is_gives (refused o c.tests.ensures c.in_err-tests.was), refl)
