-- A day that passes the tests of the call has what the trials ask.
use Rattle.std.proofs.Common.{◌≡◌, refl, None, [], replicate, arith}
use Rattle.std.proofs.lemmas.Grind.{common_steps}
use Rattle.day.specs.Lent.{lent_day}
use Rattle.day.specs.Outcome.{memory_of, sizes_of, refusal}
use Rattle.day.specs.Paths.{big}
use Rattle.day.specs.Tests.{passed}
use Rattle.big.proofs.Entry.{trials_ask}
use Rattle.earlier_calls.proofs.best.trials_of.Goals as goal

pub make_trials-requires : goal.make_trials-requires
make_trials-requires c =
    let d = lent_day c.args.day in
    let m = memory_of (replicate 9 0) [] (replicate 3 0) in
    let ok : refusal big d (sizes_of m) ≡ None = passed (refusal big d (sizes_of m)) c.path.ensures c.in_ok-path.was in
    trials_ask 20 d m (rw ok refl) _ _ _ _ (grind (arith, common_steps)) (grind (arith, common_steps)) (grind (arith, common_steps))
    (grind (arith, common_steps))
