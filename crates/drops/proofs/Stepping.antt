-- Laws of the trials in turn. Main statements: `begun`, what trial 1 leaves; `step_cheaper`, `step_undone`, what a further one leaves. Assumes nothing.
use Rattle.std.proofs.Common.{◌≡◌, refl, sym, ap, ◌∙◌, subst, true, Option, Some, None, IsSome, List, ℕ, ◌≤◌, ◌<◌, arith, length, set}
use Rattle.std.proofs.Common.{replicate, length-set, get_or-set_same, get_or-set_other}
use Rattle.std.specs.Prelude.{IfSome}
use Rattle.std.proofs.Math.Decide.{ℕ_discrete}
use Rattle.std.proofs.lemmas.List.{length-replicate}
use borrow.Author.Tests.{lt-ltb, le-ltb}
use Rattle.day.specs.Sums.{at}
use Rattle.day.specs.Day.{Day, periods}
use Rattle.day.specs.Plan.{cost}
use Rattle.day.specs.Drops.{starts_free, allowed, trial_day, Ruled, Tried, Turn, forbidding, undone, judged, settled}
use Rattle.theory.proofs.Drops.{ruled_plans, trial_loose, trial_free, feasible_free, allowed_all, allowed_less, allowed_again, next_allowed}
use Rattle.rounds.specs.declared.Turn as forbid
use Rattle.drops.specs.declared.Standing.{Standing}
use Rattle.drops.specs.Ready.{IsReady}
use Rattle.drops.specs.Trial.{Comes}
use Rattle.drops.specs.Standing.{state_of, Held, NextIs, Stepped, Startable, Begun}

-- Trial 1.
module _ (d : Day) (net keys allowances marks best plan : List ℕ) (ready : IsReady d net keys)
    (ok : Startable d allowances marks best plan) where
  -- finds a plan
  finds : Ruled (starts_free d.capacity d) None → ⊥
  finds r =
      let w = ok.supplied in
      ruled_plans (starts_free d.capacity d) (trial_loose d ready.loose d.capacity) (trial_free d d.capacity) None r
      w.0 (feasible_free d d.capacity w.0 (λ k l. omega arith) w.1)

  every : d.capacity ≡ allowed (replicate (periods d) 0) d
  every = allowed_all d ready.limits.limits.lengths.capacity

  keeps : (plan' : List ℕ) (t : ℕ) → length plan' ≡ length plan → Ruled (starts_free d.capacity d) (Some plan') → t ≡ cost d (at plan')
      → Begun d t d.capacity (replicate (periods d) 0) plan' plan'
  keeps plan' t alike r is =
      record {
        held = record {
          triable = record { each = ready.limits.limits.lengths.capacity; low = λ k l. omega arith; size = alike ∙ ok.size };
          marked = length-replicate (periods d) 0;
          room = alike ∙ ok.size;
          allowed = every;
          costs = is;
        };
        trial = record {
          ruled = subst (λ (c : List ℕ). Ruled (starts_free c d) (Some plan')) every r;
          marks = refl;
          ahead = refl;
          dropped = refl;
        };
        is = refl;
      }

  -- with the capacities copied
  module _ (copied plan' : List ℕ) (same : copied ≡ d.capacity) where
    pub some_plan : (o : Option ℕ) → Comes d copied o plan' → IsSome o
    some_plan (Some t) comes = refl
    some_plan None comes = absurd (finds (rw same at comes))

    -- the marks cleared, and the plan copied as the best
    pub begun : (marks' best' : List ℕ) (t : ℕ) → marks' ≡ replicate (length marks) 0 → best' ≡ plan' → Comes d copied (Some t) plan'
        → length plan' ≡ length plan → Begun d t copied marks' best' plan'
    begun marks' best' t cleared is comes alike =
        let c = subst (λ (c : List ℕ). Comes d c (Some t) plan') same comes in
        rw (cleared, ok.marked, is, same) (keeps plan' t alike c.0 c.1)

-- A further trial.
module _ (d : Day) (allowances marks best plan : List ℕ) (s : Standing) (next : forbid.Turn)
    (held : Held d allowances marks best plan s.cost) (turns : NextIs d marks best s next) where
  abbrev state : Tried
  state = state_of marks best s

  abbrev k : ℕ
  k = next.period

  abbrev turn : Turn
  turn = record { period = k; dropped = next.dropped }

  -- it forbids an allowed period of the day
  free : at marks k ≡ 0
  free = (next_allowed (periods d) state turn turns.ahead turns.comes).1

  inside : k < periods d
  inside = turns.inside

  less : set allowances k 0 ≡ allowed (set marks k 1) d
  less = allowed_less d marks allowances held.marked held.allowed k inside

  lower : (j : ℕ) → j < periods d → at (set allowances k 0) j ≤ at d.capacity j
  lower j l = go (ℕ_discrete j k)
    where
      go : Dec (j ≡ k) → at (set allowances k 0) j ≤ at d.capacity j
      go (yes e) = rw e (omega (arith, get_or-set_same allowances k 0 0 (omega (arith, held.triable.each, inside))))
      go (no ne) = omega (arith, get_or-set_other allowances k j 0 0 ne, held.triable.low j l)

  less_size : length (set allowances k 0) ≡ periods d
  less_size = length-set allowances k 0 ∙ held.triable.each

  forbids : (o : Option (List ℕ)) → Ruled (starts_free (set allowances k 0) d) o → Ruled (trial_day (forbidding state turn) d) o
  forbids o = subst (λ (c : List ℕ). Ruled (starts_free c d) o) less

  -- a plan that costs no less changes nothing
  no_cheaper : (plan' : List ℕ) (t : ℕ) → t ≡ cost d (at plan') → s.cost ≤ t → settled d state turn (Some plan') ≡ undone state turn
  no_cheaper plan' t is l =
      ap (judged state turn plan') (le-ltb (cost d (at plan')) (cost d (at best)) (omega (arith, held.costs)))

  unchanged : (plan' : List ℕ) → length plan' ≡ length plan → (o : Option (List ℕ)) → Ruled (starts_free (set allowances k 0) d) o
      → settled d state turn o ≡ undone state turn
      → Stepped d s marks best (record { cost = s.cost; ahead = k; dropped = next.dropped })
      (set (set allowances k 0) k (at d.capacity k)) marks best plan'
  unchanged plan' alike o r e =
      let again = allowed_again d marks allowances held.marked held.allowed k inside free in
      let same = again ∙ sym held.allowed in
      record {
        held = record {
          triable = record {
            each = ap (λ (l : List ℕ). length l) same ∙ held.triable.each;
            low = λ j l. omega (arith, ap (λ (l : List ℕ). at l j) same, held.triable.low j l);
            size = alike ∙ held.triable.size;
          };
          marked = held.marked;
          room = held.room;
          allowed = again;
          costs = held.costs;
        };
        trial = record { turn = turn; comes = turns.comes; outcome = o; ruled = forbids o r; is = sym e };
      }

  changed : (plan' : List ℕ) (t : ℕ) → length plan' ≡ length plan → Ruled (starts_free (set allowances k 0) d) (Some plan')
      → t ≡ cost d (at plan') → t < s.cost
      → Stepped d s marks best (record { cost = t; ahead = k; dropped = true }) (set allowances k 0) (set marks k 1) plan' plan'
  changed plan' t alike r is l =
      record {
        held = record {
          triable = record { each = less_size; low = lower; size = alike ∙ held.triable.size };
          marked = length-set marks k 1 ∙ held.marked;
          room = alike ∙ held.triable.size;
          allowed = less;
          costs = is;
        };
        trial = record {
          turn = turn;
          comes = turns.comes;
          outcome = Some plan';
          ruled = forbids (Some plan') r;
          is = sym (ap (judged state turn plan') (lt-ltb (cost d (at plan')) (cost d (at best)) (omega (arith, held.costs))));
        };
      }

  -- by what the trial has come to: a plan that costs less, which is copied as the best, or one that costs no less, or none
  module _ (plan' : List ℕ) (alike : length plan' ≡ length plan) (o : Option ℕ) (comes : Comes d (set allowances k 0) o plan') where
    pub step_cheaper : (best' : List ℕ) (t : ℕ) → o ≡ Some t → t < s.cost → best' ≡ plan'
        → Stepped d s marks best (record { cost = t; ahead = k; dropped = true }) (set allowances k 0) (set marks k 1) best' plan'
    step_cheaper best' t e l copied = let c = rw e at comes in rw copied (changed plan' t alike c.0 c.1 l)

    pub step_undone : IfSome o (λ t. s.cost ≤ t)
        → Stepped d s marks best (record { cost = s.cost; ahead = k; dropped = next.dropped })
        (set (set allowances k 0) k (at d.capacity k)) marks best plan'
    step_undone dear = go o comes dear
      where
        go : (o : Option ℕ) → Comes d (set allowances k 0) o plan' → IfSome o (λ t. s.cost ≤ t)
            → Stepped d s marks best (record { cost = s.cost; ahead = k; dropped = next.dropped })
            (set (set allowances k 0) k (at d.capacity k)) marks best plan'
        go None c _ = unchanged plan' alike None c refl
        go (Some t) c l = unchanged plan' alike (Some plan') c.0 (no_cheaper plan' t c.1 l)
