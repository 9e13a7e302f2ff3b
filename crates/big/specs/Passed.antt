-- What the tests of the call on a big day leave. Main statements: `big_admitted`, `big_loose`, `big_trials`. Assumes nothing.
use Rattle.std.proofs.lemmas.Option.{none-some}
use Rattle.std.specs.Prelude.{◌≡◌, ℕ, zero, suc, ◌<◌, None}
use Rattle.std.proofs.Common.{sym, ◌∙◌, arith}
use Rattle.day.specs.Day.{Day}
use Rattle.day.specs.Refusals.{no_trials, low_store}
use Rattle.day.specs.Tests.{first_one, first_two}
use Rattle.day.specs.declared.Sizes.{Sizes}
use Rattle.day.specs.Outcome.{refusal}
use Rattle.day.specs.Paths.{big}
use Rattle.day.specs.Drops.{big_refusal}
use Rattle.checks.specs.Passed.{Admitted, admitted}
use Rattle.theory.specs.Store.{Loose}
use Rattle.theory.proofs.Loose.{passed_loose}

module _ (trials : ℕ) (d : Day) (s : Sizes) (ok : big_refusal trials d s ≡ None) where
  tests : (refusal big d s ≡ None) × (no_trials trials ≡ None)
  tests = first_two (refusal big d s) (no_trials trials) ok

  pub big_admitted : Admitted big d s
  big_admitted = admitted big d s tests.0

  pub big_loose : Loose d
  big_loose = passed_loose big_admitted.day (sym (first_one (low_store d)) ∙ big_admitted.own)

  pub big_trials : 0 < trials
  big_trials = go trials tests.1
    where
      go : (t : ℕ) → no_trials t ≡ None → 0 < t
      go zero e = absurd (none-some _ (sym e))
      go (suc t) e = omega arith
