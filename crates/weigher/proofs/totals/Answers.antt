-- A feasible plan's verdict is that it holds, with its totals.
use Rattle.std.specs.Prelude.{Ok}
use Rattle.std.proofs.Common.{◌≡◌, ◌∙◌, refl}
use Rattle.day.specs.Sums.{at}
use Rattle.day.specs.Lent.{lent_day}
use Rattle.weigher.specs.Verdict.{totals_of}
use Rattle.weigher.specs.Theorems.{feasible_holds}
use Rattle.weigher.specs.Running.{walk_verdict}
use Rattle.weigher.proofs.totals.Goals as goal
use Rattle.weigher.proofs.totals.Goals.{After-walk}

holds : (c : After-walk) → c.walk.result ≡ Ok (totals_of (lent_day c.args.day) (at c.args.plan.now))
holds c =
    let d = lent_day c.args.day in
    let x = at c.args.plan.now in
    c.walk.ensures ∙ (walk_verdict d x ∙ feasible_holds d x c.requires.feasible)

pub unwrap-requires : goal.unwrap-requires
unwrap-requires c = rw (holds (goal.at.unwrap-requires c).After-walk) refl

pub returns : goal.returns
returns c = cc (holds (goal.at.returns c).After-walk, c.unwrap.ensures)
