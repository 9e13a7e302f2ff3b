-- What an answer is where a refusal or a broken rule became its fault. Assumes nothing.
use Rattle.std.specs.Prelude.{None, Result, Ok, Err, IsErrAnd}
use Rattle.std.proofs.Common.{◌≡◌, List, [], ◌∷◌, ℕ, ltb, length, sym, ap, ◌∙◌, ltb-false}
use Rattle.day.specs.declared.Refusal.{Refusal}
use Rattle.day.specs.declared.Refusal.TheVariants.{FewSlots}
use Rattle.day.specs.Day.{Day, periods, max_total}
use Rattle.day.specs.Refusals.{day_tests, bad_slots}
use Rattle.day.specs.Tests.{first_split, first_one, not_refused}
use Rattle.checks.specs.Passed.{day_passed}
use Rattle.weigher.specs.declared.Breach.{Breach}
use Rattle.weigher.specs.declared.Fault.{Fault}
use Rattle.weigher.specs.declared.Fault.TheVariants.{Refused, Broken}
use Rattle.weigher.specs.Verdict.{Verdict, verdict_of}
use Rattle.weigher.specs.Answers.{weigh_refusal}
use Rattle.weigher.specs.Walk.{Weighable}
use Rattle.weigher.specs.Running.{walk_of, walk_verdict}

pub from_refused : {A : Type 0} (a : Result A Fault) (r : Refusal) → IsErrAnd a (λ f. f ≡ Refused r) → a ≡ Err (Refused r)
from_refused (Ok a) r e = absurd e
from_refused (Err f) r e = ap (λ (g : Fault). Err g) e

pub from_broken : {A : Type 0} (a : Result A Fault) (b : Breach) → IsErrAnd a (λ f. f ≡ Broken b) → a ≡ Err (Broken b)
from_broken (Ok a) b e = absurd e
from_broken (Err f) b e = ap (λ (g : Fault). Err g) e

-- the walk's answer is the verdict
pub walked : (d : Day) (x : ℕ → ℕ) {v w : Verdict} → v ≡ walk_of d x → v ≡ w → verdict_of d x ≡ w
walked d x e f = sym (walk_verdict d x) ∙ (sym e ∙ f)

-- a plan that is not refused can be walked
pub weighable : (d : Day) (plan : List ℕ) → weigh_refusal d plan ≡ None → Weighable d plan
weighable d plan e =
    let last = bad_slots (length plan) (periods d) in
    let t = first_split (day_tests max_total d) (last ∷ []) e in
    let l = (day_passed d t.0).limits in
    record {
      few = l.few;
      lengths = l.lengths;
      amounts = ltb-false _ _ (not_refused (ltb (length plan) (periods d)) FewSlots (sym (first_one last) ∙ t.1));
    }
