-- What the tests of a path refuse, the call refuses; what comes after them needs no answer.
use Rattle.std.proofs.Common.{[], refl}
use Rattle.std.proofs.lemmas.Result.{err_from_is_err_and}
use Rattle.day.specs.Lent.{lent_day}
use Rattle.day.specs.Tests.{is_gives, refused}
use Rattle.day.specs.Outcome.{memory_of, sizes_of}
use Rattle.big.proofs.Entry.{path_refused}
use Rattle.big.proofs.plan.Goals as goal

pub returns-in_err-path : goal.returns-in_err-path
returns-in_err-path c =
    let a = c.args in
    let lent = memory_of a.costs.now [] a.slots.now in
    let p = err_from_is_err_and c.from_residual.result c.from_residual.ensures.1 in
    rw (p.1, p.2) (is_gives (path_refused a.trials (lent_day a.day) (sizes_of lent) _ (refused _ c.path.ensures c.in_err-path.was)), refl)
