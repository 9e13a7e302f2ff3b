-- The weigher's faults as the call's, once the tables' tests have passed. Main statement: `faulted`. Assumes nothing.
use Rattle.std.proofs.Common.{◌≡◌, sym, ap, ◌∙◌, List, [], ◌∷◌, ◌++◌, ℕ, length, Option, None, Ok, Err}
use Rattle.std.proofs.lemmas.Option.{none-some}
use Rattle.day.specs.declared.Refusal.{Refusal}
use Rattle.day.specs.Sums.{at}
use Rattle.day.specs.Day.{Day, periods, max_total}
use Rattle.day.specs.Figures.{Figures}
use Rattle.day.specs.Refusals.{first, table_tests, pair_tests, total_tests, bad_slots}
use Rattle.day.specs.Tests.{first_passed}
use Rattle.range_checks.specs.Passed.{pair_passed}
use Rattle.weigher.specs.declared.Breach.{Breach}
use Rattle.weigher.specs.declared.Fault.{Fault}
use Rattle.weigher.specs.declared.Fault.TheVariants.{Refused, Broken}
use Rattle.weigher.specs.Verdict.{Verdict, verdict_of}
use Rattle.weigher.specs.Answers.{weigh_refusal, Weighs, judged, weighed_figures}
use Rattle.play.specs.declared.Flows.{Flows}
use Rattle.play.specs.Play.{flows_of}
use Rattle.play.specs.Answers.{play_refusal, played_on, play_figures, Plays}

-- 4, 14, 6
abbrev rest_tests : Day → (plan : List ℕ) → List (Option Refusal)
rest_tests d plan = total_tests max_total d ++ (bad_slots (length plan) (periods d) ∷ [])

-- a verdict of a broken rule is the call's
broken_play : (v : Verdict) (b : Breach) (p : Flows) → weighed_figures (Err (Broken b)) ≡ weighed_figures (judged v)
    → play_figures (Err (Broken b)) ≡ play_figures (played_on v p)
broken_play (Ok t) b p e = absurd (none-some _ (ap (λ (f : Figures ℕ). f.values) e))
broken_play (Err c) b p e = e

module _ (actual : List ℕ) (d : Day) (plan : List ℕ) (pair : first (pair_tests actual d) ≡ None) where
  -- then both calls have the same tests left
  same : weigh_refusal d plan ≡ play_refusal actual d plan
  same =
      first_passed (table_tests d) (rest_tests d plan) (pair_passed actual d pair).tables
      ∙ sym (first_passed (pair_tests actual d) (rest_tests d plan) pair)

  pub faulted : (f : Fault) → Weighs d plan (Err f) → Plays actual d plan (Err f)
  faulted (Refused r) g = rw same at g
  faulted (Broken b) e = (rw same at e.0, broken_play (verdict_of d (at plan)) b (flows_of d (at plan) (at actual)) e.1)
