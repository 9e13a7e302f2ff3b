-- A refusal of the tables is the call's, and once they have passed so is what the weigher faults.
use Rattle.std.proofs.Common.{[], ◌∷◌, ◌++◌, length, sym, subst}
use Rattle.std.proofs.lemmas.Result.{err_from_is_err_and}
use Rattle.day.specs.Day.{periods, max_total}
use Rattle.day.specs.Lent.{lent_day}
use Rattle.day.specs.Refusals.{first, pair_tests, total_tests, bad_slots}
use Rattle.day.specs.Tests.{passed, refused, is_gives, first_refused}
use Rattle.weigher.specs.Answers.{Weighs}
use Rattle.weigher.proofs.Faults.{from_refused}
use Rattle.play.specs.Answers.{Plays}
use Rattle.play.proofs.Laws.{faulted}
use Rattle.play.proofs.play.Goals as goal

pub returns-in_err-tables : goal.returns-in_err-tables
returns-in_err-tables c =
    let d = lent_day c.args.day in
    let actual = c.args.actual.now in
    let plan = c.args.plan.now in
    subst (Plays actual d plan) (sym (from_refused c.from_residual.result _ c.from_residual.ensures.1))
    (is_gives (first_refused (pair_tests actual d) (total_tests max_total d ++ (bad_slots (length plan) (periods d) ∷ []))
    (refused (first (pair_tests actual d)) c.tables.ensures c.in_err-tables.was)))

pub returns-in_err-weigh : goal.returns-in_err-weigh
returns-in_err-weigh c =
    let d = lent_day c.args.day in
    let actual = c.args.actual.now in
    let plan = c.args.plan.now in
    let tested = passed (first (pair_tests actual d)) c.tables.ensures c.in_ok-tables.was in
    let p = err_from_is_err_and c.from_residual-in_err-weigh.result c.from_residual-in_err-weigh.ensures.1 in
    rw (p.1, p.2) (faulted actual d plan tested _ (subst (Weighs d plan) c.in_err-weigh.was c.weigh.ensures))
