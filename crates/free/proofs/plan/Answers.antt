-- A refusal of the tests, or the work.
use Rattle.std.proofs.Common.{refl}
use Rattle.std.proofs.lemmas.Result.{err_from_is_err_and}
use Rattle.day.specs.Tests.{is_gives, passed, refused}
use Rattle.checks.specs.Passed.{admitted}
use Rattle.free.proofs.plan.Goals as goal

pub returns-in_err-path : goal.returns-in_err-path
returns-in_err-path c =
    let p = err_from_is_err_and c.from_residual.result c.from_residual.ensures.1 in
    rw (p.1, p.2) (is_gives (refused _ c.path.ensures c.in_err-path.was), refl)

pub work-requires : goal.work-requires
work-requires c = admitted _ _ _ (passed _ c.path.ensures c.in_ok-path.was)
