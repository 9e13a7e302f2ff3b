-- A refusal of the tests is the answer; passed tests are what the work asks.
use Rattle.std.proofs.Common.{refl}
use Rattle.std.proofs.lemmas.Result.{err_from_is_err_and}
use Rattle.day.specs.Tests.{is_gives, passed, refused}
use Rattle.checks.specs.Passed.{admitted}
use Rattle.equal.proofs.plan.Goals as goal

pub returns-in_err-path : goal.returns-in_err-path
returns-in_err-path c =
    let p = err_from_is_err_and c.from_residual.result c.from_residual.ensures.1 in
    rw (p.1, p.2) (record { runs = (is_gives (refused _ c.path.ensures c.in_err-path.was), refl); loads = tt })

pub work-totals-requires : goal.work-totals-requires
work-totals-requires c = admitted _ _ _ (passed _ c.path.ensures c.in_ok-path.was)
