-- The walk over a day's periods while it runs: what its sums are then, where it goes on, where a broken rule stops it.
-- Assumes nothing.
use Rattle.std.proofs.Common.{◌≡◌, refl, sym, ap, ◌∙◌, ⊎_elim, ℕ, zero, suc, ◌+◌, ◌≤◌, ◌<◌, eq-or-lt_of_le, le_of_suc-le-suc}
use Rattle.std.proofs.Math.Arith.{le-zero}
use Rattle.day.specs.Sums.{sum_to}
use Rattle.day.specs.Day.{Day, periods, demand_to}
use Rattle.weigher.specs.declared.Rule.{Rule}
use Rattle.weigher.specs.declared.Sums.{Sums}
use Rattle.std.specs.Prelude.{Ok, Err}
use Rattle.weigher.specs.Theorems.{kept_served}
use Rattle.weigher.specs.Verdict.{breach}
use Rattle.weigher.specs.Walk.{Ruling, sums_to, ruling_at, ruling_is}
use Rattle.weigher.specs.Running.{running, stopped, ruled_in, walk_to, end_of, walk_of, running_kept}

-- the walk over the first i periods runs, with the sums s
pub record Walking (d : Day) (x : ℕ → ℕ) (i : ℕ) (s : Sums) : Type 0 where
  pub inside : i ≤ periods d
  pub runs : walk_to d x i ≡ running s

-- a walk that has stopped does not go on
stopped_stays : (d : Day) (x : ℕ → ℕ) (i n : ℕ) {r : Rule} {period : ℕ} → walk_to d x i ≡ stopped r period → i ≤ n → walk_to d x n ≡ stopped r period
stopped_stays d x i zero e l = rw (le-zero l) at e
stopped_stays d x i (suc n) e l =
    ⊎_elim
    (λ (q : i ≡ suc n). rw q at e)
    (λ h. rw (stopped_stays d x i n e (le_of_suc-le-suc h)) refl)
    (eq-or-lt_of_le l)

module _ {d : Day} {x : ℕ → ℕ} {i : ℕ} {s : Sums} (w : Walking d x i s) where
  pub walking_sums : s ≡ sums_to d x i
  walking_sums = (running_kept d x i w.runs).0

  pub walking_served : demand_to d i ≤ d.opening + sum_to x i
  walking_served = kept_served d x i (running_kept d x i w.runs).1

  -- a turn that rules as the report does is the walk's
  walking_turn : {o : Ruling} → o ≡ ruling_at d x i → walk_to d x (suc i) ≡ ruled_in (suc i) o
  walking_turn e = rw (w.runs, walking_sums, ruling_is d x i, e) refl

  pub walking_more : {o : Ruling} {t : Sums} → i < periods d → o ≡ ruling_at d x i → o ≡ Ok t → Walking d x (suc i) t
  walking_more l e f = record { inside = l; runs = walking_turn e ∙ ap (ruled_in (suc i)) f }

  pub walking_broken : {o : Ruling} {r : Rule} → i < periods d → o ≡ ruling_at d x i → o ≡ Err r → Err (breach r (suc i)) ≡ walk_of d x
  walking_broken l e f = sym (ap end_of (stopped_stays d x (suc i) (periods d) (walking_turn e ∙ ap (ruled_in (suc i)) f) l))
