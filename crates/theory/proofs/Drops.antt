-- Big days, best so far: what the trials of `TriedIn` give.
-- Main statements: `ruled_plans`, `plans_ruled`, the greedy rule gives the plan of a trial's day, and nothing just where it has none; `tried_stands`, the
-- best plan so far keeps the conditions of the day; `tried_one`, so many trials lead to one state; `ended_cheaper`, more allowed trials never lead to a
-- dearer plan; `ended_one`, the trials end in one way; `first_optimal`, `free_least`, trial 1 has the least cost with all starts free, which no plan of
-- the day undercuts. Assumes nothing.
use Rattle.std.proofs.lemmas.Option.{none-some, same_Some}
use Rattle.std.specs.Prelude.{◌≡◌, refl, Bool, true, false, List, ℕ, zero, suc, ◌≤◌, ◌<◌, ltb, length, set, replicate, Option, None, Some}
use Rattle.std.proofs.Common.{sym, ap, ap₂, ◌∙◌, subst, arith, length-set, ext_get_or, get_or-set_same, get_or-set_other, ltb-true}
use Rattle.std.proofs.Math.Decide.{dec_lt, ℕ_discrete}
use Rattle.std.proofs.lemmas.List.{length-replicate, get_or-replicate}
use Rattle.std.proofs.Math.ListN.{get_or-eq_default}
use Rattle.day.specs.Sums.{at, at-list_of, length-list_of}
use Rattle.day.specs.Day.{Day, periods, total}
use Rattle.day.specs.Plan.{making, Feasible, Optimal, cost, cost_at}
use Rattle.day.specs.InTurn.{ServedTo}
use Rattle.day.specs.Drops.{starts_free, allowed_at, allowed_in, allowed, trial_day, Ruled, Tried, open_at, last_open, Turn, turn_to, in_round, next}
use Rattle.day.specs.Drops.{forbidding, undone, judged, settled, FirstTrial, NextTrial, TriedIn, Ended}
use Rattle.theory.specs.Compare.{sum_le}
use Rattle.theory.specs.Problem.{model_of}
use Rattle.theory.specs.Net.{problem_of}
use Rattle.theory.specs.FreeSetups.{Free}
use Rattle.theory.specs.Store.{Loose}
use Rattle.theory.proofs.InTurn.{in_turn_optimal, in_turn_serves}
use Rattle.theory.proofs.Demands.{plan_unique}
use Rattle.theory.specs.Drops.{Plans, Stands}

-- the rule makes nothing past the day
served_idle : (d : Day) (t : ℕ) (x : ℕ → ℕ) → ServedTo d t x → (k : ℕ) → periods d ≤ k → x k ≡ 0
served_idle d zero x idle k l = idle k
served_idle d (suc t) x (w, served, next) k l =
    let inside = next.needed.inside in
    let early = next.cheapest.before in
    next.others k (omega arith) ∙ served_idle d t w served k l

-- and speaks of amounts alone
served_alike : (d : Day) (t : ℕ) (x y : ℕ → ℕ) → ((k : ℕ) → x k ≡ y k) → ServedTo d t x → ServedTo d t y
served_alike d zero x y same idle = λ k. sym (same k) ∙ idle k
served_alike d (suc t) x y same (w, served, next) = (
  w,
  served,
  record {
    need = next.need;
    from = next.from;
    needed = next.needed;
    cheapest = next.cheapest;
    here = sym (same next.from) ∙ next.here;
    others = λ j h. sym (same j) ∙ next.others j h;
  },
)

-- On a day without setup cost whose stores can't bind the rule gives just that.
module _ (d : Day) (loose : Loose d) (free : Free (model_of (problem_of d)) (periods d)) where
  pub ruled_plans : (o : Option (List ℕ)) → Ruled d o → Plans d o
  ruled_plans None r = λ x f. let w = in_turn_serves d loose free x f in r w.0 w.1
  ruled_plans (Some plan) r = (r.0, in_turn_optimal d loose free (at plan) r.1)

  pub plans_ruled : (o : Option (List ℕ)) → Plans d o → Ruled d o
  plans_ruled None p = λ x served. p x (in_turn_optimal d loose free x served).feasible
  plans_ruled (Some plan) (size, plan-of) =
      let w = in_turn_serves d loose free (at plan) plan-of.feasible in
      let same : (k : ℕ) → k < periods d → w.0 k ≡ at plan k =
      plan_unique d w.0 (at plan) (in_turn_optimal d loose free w.0 w.1) plan-of in
      (size, served_alike d (total d) w.0 (at plan) (λ k. alike w.0 w.1 same k (dec_lt k (periods d))) w.1)
    where
      alike : (x : ℕ → ℕ) → ServedTo d (total d) x → ((k : ℕ) → k < periods d → x k ≡ at plan k)
          → (k : ℕ) → Dec (k < periods d) → x k ≡ at plan k
      alike x served same k (yes l) = same k l
      alike x served same k (no l) =
          served_idle d (total d) x served k (omega arith) ∙ sym (get_or-eq_default plan 0 {n = k} (omega (arith, size)))

  -- there is one outcome
  ruled_one : (o p : Option (List ℕ)) → Ruled d o → Ruled d p → o ≡ p
  ruled_one None None r q = refl
  ruled_one None (Some h) r q = absurd (r (at h) q.1)
  ruled_one (Some g) None r q = absurd (q (at g) r.1)
  ruled_one (Some g) (Some h) r q =
      let same =
      plan_unique d (at g) (at h) (in_turn_optimal d loose free (at g) r.1) (in_turn_optimal d loose free (at h) q.1) in
      ap Some (ext_get_or 0 g h (r.0 ∙ sym q.0) (λ k l. same k (omega (arith, r.0))))

-- The day of a trial.
module _ (d : Day) where
  abbrev n : ℕ
  n = periods d

  pub trial_loose : Loose d → (capacities : List ℕ) → Loose (starts_free capacities d)
  trial_loose loose capacities =
      record { fits = record { nonempty = loose.fits.nonempty; used = loose.fits.used }; takes = loose.takes }

  pub trial_free : (capacities : List ℕ) → Free (model_of (problem_of (starts_free capacities d))) n
  trial_free capacities k l = get_or-replicate {A = ℕ} n k 0 0 l

  -- starts taken as free cost nothing
  free_making : (b p x : ℕ) → making 0 p x ≤ making b p x
  free_making b p zero = omega arith
  free_making b p (suc x) = omega arith

  free_le : (capacities : List ℕ) (x : ℕ → ℕ) → cost (starts_free capacities d) x ≤ cost d x
  free_le capacities x =
      sum_le (cost_at (starts_free capacities d) x) (cost_at d x) n
      (λ k l. omega (
        arith,
        ap (λ (b : ℕ). making b (at d.unit k) (x k)) (trial_free capacities k l),
        free_making (at d.setup k) (at d.unit k) (x k),
      ))

  -- plans of a day with no higher capacities are plans of the day
  pub lower_feasible : (capacities : List ℕ) (x : ℕ → ℕ) → ((k : ℕ) → k < n → at capacities k ≤ at d.capacity k)
      → Feasible (starts_free capacities d) x → Feasible d x
  lower_feasible capacities x low f =
      record { served = f.served; ends = f.ends; within = λ k l. omega (arith, f.within k l, low k l); stored = f.stored }

  pub feasible_free : (capacities : List ℕ) (x : ℕ → ℕ) → ((k : ℕ) → k < n → at d.capacity k ≤ at capacities k)
      → Feasible d x → Feasible (starts_free capacities d) x
  feasible_free capacities x high f =
      record { served = f.served; ends = f.ends; within = λ k l. omega (arith, f.within k l, high k l); stored = f.stored }

  allowed_le : (mark c : ℕ) → allowed_at mark c ≤ c
  allowed_le zero c = omega arith
  allowed_le (suc _) c = omega arith

  trial_feasible : (marks : List ℕ) (x : ℕ → ℕ) → Feasible (trial_day marks d) x → Feasible d x
  trial_feasible marks x =
      lower_feasible (allowed marks d) x
      (λ k l. omega (arith, at-list_of (allowed_in marks d) n k l, allowed_le (at marks k) (at d.capacity k)))

  -- the capacities that marks allow
  at_allowed : (marks : List ℕ) (k : ℕ) → k < n → at (allowed marks d) k ≡ allowed_in marks d k
  at_allowed marks = at-list_of (allowed_in marks d) n

  length_allowed : (marks : List ℕ) → length (allowed marks d) ≡ n
  length_allowed marks = length-list_of (allowed_in marks d) n

  allowed_is : (marks l : List ℕ) → length l ≡ n → ((k : ℕ) → k < n → at l k ≡ allowed_in marks d k) → l ≡ allowed marks d
  allowed_is marks l size each =
      ext_get_or 0 l (allowed marks d) (size ∙ sym (length_allowed marks))
      (λ k h. let inside : k < n = omega (arith, size) in each k inside ∙ sym (at_allowed marks k inside))

  -- all of them, where none is forbidden
  pub allowed_all : length d.capacity ≡ n → d.capacity ≡ allowed (replicate n 0) d
  allowed_all size =
      allowed_is (replicate n 0) d.capacity size
      (λ k l. sym (ap (λ (mark : ℕ). allowed_at mark (at d.capacity k)) (get_or-replicate {A = ℕ} n k 0 0 l)))

  -- one period more is forbidden
  module _ (marks l : List ℕ) (size : length marks ≡ n) (is : l ≡ allowed marks d) (k : ℕ) (inside : k < n) where
    sized : length l ≡ n
    sized = ap (λ (l : List ℕ). length l) is ∙ length_allowed marks

    each : (j : ℕ) → j < n → at l j ≡ allowed_in marks d j
    each j h = ap (λ (l : List ℕ). at l j) is ∙ at_allowed marks j h

    pub allowed_less : set l k 0 ≡ allowed (set marks k 1) d
    allowed_less = allowed_is (set marks k 1) (set l k 0) (length-set l k 0 ∙ sized) (λ j h. go j h (ℕ_discrete j k))
      where
        go : (j : ℕ) → j < n → Dec (j ≡ k) → at (set l k 0) j ≡ allowed_in (set marks k 1) d j
        go j h (yes e) =
            rw e
            (get_or-set_same l k 0 0 (omega (arith, sized))
            ∙ sym (ap (λ (mark : ℕ). allowed_at mark (at d.capacity k)) (get_or-set_same marks k 1 0 (omega (arith, size)))))
        go j h (no ne) =
            get_or-set_other l k j 0 0 ne ∙ each j h
            ∙ sym (ap (λ (mark : ℕ). allowed_at mark (at d.capacity j)) (get_or-set_other marks k j 1 0 ne))

    -- and allowed again
    pub allowed_again : at marks k ≡ 0 → set (set l k 0) k (at d.capacity k) ≡ allowed marks d
    allowed_again z =
        allowed_is marks (set (set l k 0) k (at d.capacity k))
        (length-set (set l k 0) k (at d.capacity k) ∙ (length-set l k 0 ∙ sized)) (λ j h. go j h (ℕ_discrete j k))
      where
        go : (j : ℕ) → j < n → Dec (j ≡ k) → at (set (set l k 0) k (at d.capacity k)) j ≡ allowed_in marks d j
        go j h (yes e) =
            rw e
            (get_or-set_same (set l k 0) k (at d.capacity k) 0 (omega (arith, sized, length-set l k 0))
            ∙ sym (ap (λ (mark : ℕ). allowed_at mark (at d.capacity k)) z))
        go j h (no ne) = get_or-set_other (set l k 0) k j (at d.capacity k) 0 ne ∙ (get_or-set_other l k j 0 0 ne ∙ each j h)

-- the period that comes next is one of the day's, and allowed
abbrev Allowed : (marks : ℕ → ℕ) → ℕ → ℕ → Type 0
Allowed marks m k = (k < m) × (marks k ≡ 0)

open_allowed : (marks : ℕ → ℕ) (m k : ℕ) → last_open marks m ≡ Some k → Allowed marks m k
open_allowed marks zero k e = absurd (none-some k e)
open_allowed marks (suc m) k e = go (marks m) refl e (open_allowed marks m k)
  where
    go : (mark : ℕ) → marks m ≡ mark → open_at mark m (last_open marks m) ≡ Some k → (last_open marks m ≡ Some k → Allowed marks m k)
        → Allowed marks (suc m) k
    go zero z e old = let same = same_Some m k e in (omega arith, ap marks (sym same) ∙ z)
    go (suc _) z e old = let w = old e in (omega (arith, w.0), w.1)

turn_has : (P : ℕ → Type 0) (dropped : Bool) (o : Option ℕ) (t : Turn) → ((k : ℕ) → o ≡ Some k → P k) → turn_to dropped o ≡ Some t → P t.period
turn_has P dropped None t has e = absurd (none-some t e)
turn_has P dropped (Some k) t has e = subst P (ap (λ (t : Turn). t.period) (same_Some _ t e)) (has k refl)

round_has : (P : ℕ → Type 0) (dropped : Bool) (onward last : Option ℕ) (t : Turn) → ((k : ℕ) → onward ≡ Some k → P k) → ((k : ℕ) → last ≡ Some k → P k)
    → in_round onward last dropped ≡ Some t → P t.period
round_has P dropped (Some k) last t has top e = turn_has P dropped (Some k) t has e
round_has P false None last t has top e = absurd (none-some t e)
round_has P true None last t has top e = turn_has P false last t top e

pub next_allowed : (n : ℕ) (s : Tried) (t : Turn) → s.ahead ≤ n → next n s ≡ Some t → (t.period < n) × (at s.marks t.period ≡ 0)
next_allowed n s t le e =
    round_has (Allowed (at s.marks) n) s.dropped (last_open (at s.marks) s.ahead) (last_open (at s.marks) n) t
    (λ k q. let w = open_allowed (at s.marks) s.ahead k q in (omega (arith, w.0), w.1)) (open_allowed (at s.marks) n) e

-- states alike in all are one
pub same_state : (s r : Tried) → s.marks ≡ r.marks → s.plan ≡ r.plan → s.ahead ≡ r.ahead → s.dropped ≡ r.dropped → s ≡ r
same_state s r marks plan ahead dropped =
    ap₂ (λ (a b : List ℕ). record { marks = a; plan = b; ahead = s.ahead; dropped = s.dropped }) marks plan
    ∙ ap₂ (λ (a : ℕ) (b : Bool). record { marks = r.marks; plan = r.plan; ahead = a; dropped = b }) ahead dropped

-- The trials of a day whose stores can't bind.
module _ (d : Day) (loose : Loose d) where
  -- what a trial gives
  trial_plans : (marks : List ℕ) (o : Option (List ℕ)) → Ruled (trial_day marks d) o → Plans (trial_day marks d) o
  trial_plans marks = ruled_plans (trial_day marks d) (trial_loose d loose (allowed marks d)) (trial_free d (allowed marks d))

  trial_one : (marks : List ℕ) (o p : Option (List ℕ)) → Ruled (trial_day marks d) o → Ruled (trial_day marks d) p → o ≡ p
  trial_one marks = ruled_one (trial_day marks d) (trial_loose d loose (allowed marks d)) (trial_free d (allowed marks d))

  -- and, of a state after another, a best plan that costs no more
  abbrev Onward : Tried → Tried → Type 0
  Onward s r = Stands d loose r × (cost d (at r.plan) ≤ cost d (at s.plan))

  first_stands : (s : Tried) → FirstTrial d s → Stands d loose s
  first_stands s f =
      let p = trial_plans s.marks (Some s.plan) f.ruled in
      record {
        marks = ap (λ (l : List ℕ). length l) f.marks ∙ length-replicate (periods d) 0;
        size = p.0;
        feasible = trial_feasible d s.marks (at s.plan) p.1.feasible;
        ahead = omega (arith, f.ahead);
      }

  undone_stands : (s : Tried) (t : Turn) → t.period < periods d → Stands d loose s → Onward s (undone s t)
  undone_stands s t inside w =
      (record { marks = w.marks; size = w.size; feasible = w.feasible; ahead = omega arith }, omega arith)

  judged_stands : (s : Tried) (t : Turn) (plan : List ℕ) (less : Bool) → ltb (cost d (at plan)) (cost d (at s.plan)) ≡ less
      → t.period < periods d → Stands d loose s → length plan ≡ periods d → Feasible d (at plan) → Onward s (judged s t plan less)
  judged_stands s t plan true e inside w size f =
      let cheaper = ltb-true (cost d (at plan)) (cost d (at s.plan)) e in (
        record { marks = length-set s.marks t.period 1 ∙ w.marks; size = size; feasible = f; ahead = omega arith },
        omega arith,
      )
  judged_stands s t plan false e inside w size f = undone_stands s t inside w

  settled_stands : (s : Tried) (t : Turn) (o : Option (List ℕ)) → t.period < periods d → Stands d loose s → Plans (trial_day (forbidding s t) d) o
      → Onward s (settled d s t o)
  settled_stands s t None inside w p = undone_stands s t inside w
  settled_stands s t (Some plan) inside w p =
      judged_stands s t plan (ltb (cost d (at plan)) (cost d (at s.plan))) refl inside w p.0
      (trial_feasible d (forbidding s t) (at plan) p.1.feasible)

  next_stands : (s r : Tried) → Stands d loose s → NextTrial d s r → Onward s r
  next_stands s r w step =
      subst (Onward s) (sym step.is)
      (settled_stands s step.turn step.outcome (next_allowed (periods d) s step.turn w.ahead step.comes).0 w
      (trial_plans (forbidding s step.turn) step.outcome step.ruled))

  -- After any number of trials the best plan keeps the conditions of the day.
  pub tried_stands : (t : ℕ) (s : Tried) → TriedIn d t s → Stands d loose s
  tried_stands zero s tried = absurd tried
  tried_stands (suc zero) s tried = first_stands s tried
  tried_stands (suc (suc t)) s (q, tried, step) = (next_stands q s (tried_stands (suc t) q tried) step).0

  -- Trial 1 gives the plan of the day with all starts free,
  pub first_optimal : length d.capacity ≡ periods d → (s : Tried) → FirstTrial d s → Optimal (starts_free d.capacity d) (at s.plan)
  first_optimal size s f =
      let every = ap (λ (marks : List ℕ). allowed marks d) f.marks ∙ sym (allowed_all d size) in
      subst (λ (c : List ℕ). Optimal (starts_free c d) (at s.plan)) every (trial_plans s.marks (Some s.plan) f.ruled).1

  -- which no plan of the day undercuts, starts included.
  pub free_least : (x y : ℕ → ℕ) → Optimal (starts_free d.capacity d) x → Feasible d y → cost (starts_free d.capacity d) x ≤ cost d y
  free_least x y o f =
      omega (arith, (o.first y (feasible_free d d.capacity y (λ k l. omega arith) f)).cheap, free_le d d.capacity y)

  -- So many trials lead to one state.
  first_one : (s r : Tried) → FirstTrial d s → FirstTrial d r → s ≡ r
  first_one s r f g =
      let marks = f.marks ∙ sym g.marks in
      let again = subst (λ (m : List ℕ). Ruled (trial_day m d) (Some r.plan)) (sym marks) g.ruled in
      same_state s r marks (same_Some _ _ (trial_one s.marks (Some s.plan) (Some r.plan) f.ruled again))
      (f.ahead ∙ sym g.ahead) (f.dropped ∙ sym g.dropped)

  next_one : (s r q : Tried) → NextTrial d s r → NextTrial d s q → r ≡ q
  next_one s r q f g =
      let turns = same_Some f.turn g.turn (sym f.comes ∙ g.comes) in
      let again = subst (λ (t : Turn). Ruled (trial_day (forbidding s t) d) g.outcome) (sym turns) g.ruled in
      let outcomes = trial_one (forbidding s f.turn) f.outcome g.outcome f.ruled again in
      f.is ∙ (ap₂ (settled d s) turns outcomes ∙ sym g.is)

  pub tried_one : (t : ℕ) (s r : Tried) → TriedIn d t s → TriedIn d t r → s ≡ r
  tried_one zero s r f g = absurd f
  tried_one (suc zero) s r f g = first_one s r f g
  tried_one (suc (suc t)) s r (q, f, step) (p, g, step') =
      next_one q s r step (subst (λ (w : Tried). NextTrial d w r) (sym (tried_one (suc t) q p f g)) step')

  -- an earlier state: its plan costs no less, and the call did not stop with it
  record Earlier (t u : ℕ) (s : Tried) : Type 0 where
    pub state : Tried
    pub tried : TriedIn d t state
    pub dearer : cost d (at s.plan) ≤ cost d (at state.plan)
    pub goes : t < u → next (periods d) state ≡ None → ⊥

  earlier : (t u : ℕ) (s : Tried) → 0 < t → t ≤ u → TriedIn d u s → Earlier t u s
  earlier t zero s pos le tried = absurd tried
  earlier t (suc zero) s pos le tried =
      let e : 1 ≡ t = omega arith in
      record {
        state = s;
        tried = subst (λ (m : ℕ). TriedIn d m s) e tried;
        dearer = omega arith;
        goes = λ l. absurd (omega arith);
      }
  earlier t (suc (suc u)) s pos le (q, tried, step) = go (dec_lt t (suc u)) (dec_lt (suc u) t) (λ l. earlier t (suc u) q pos l tried)
    where
      stands : Onward q s
      stands = next_stands q s (tried_stands (suc u) q tried) step

      go : Dec (t < suc u) → Dec (suc u < t) → (t ≤ suc u → Earlier t (suc u) q) → Earlier t (suc (suc u)) s
      go (yes l) r old =
          let e = old (omega arith) in
          record { state = e.state; tried = e.tried; dearer = omega (arith, e.dearer, stands.1); goes = λ _. e.goes l }
      go (no l) (yes r) old =
          let e : suc (suc u) ≡ t = omega arith in
          record {
            state = s;
            tried = subst (λ (m : ℕ). TriedIn d m s) e (q, tried, step);
            dearer = omega arith;
            goes = λ h. absurd (omega arith);
          }
      go (no l) (no r) old =
          let e : suc u ≡ t = omega arith in
          record {
            state = q;
            tried = subst (λ (m : ℕ). TriedIn d m q) e tried;
            dearer = stands.1;
            goes = λ _ stop. none-some step.turn (sym stop ∙ step.comes);
          }

  some_tried : (t : ℕ) (s : Tried) → TriedIn d t s → 0 < t
  some_tried zero s tried = absurd tried
  some_tried (suc t) s tried = omega arith

  -- no trial follows where the trials have ended with some to spare
  none_follows : (trials t u : ℕ) (s r : Tried) → Ended d trials t s → t < trials → TriedIn d u r → t < u → ⊥
  none_follows trials t u s r end spare tried l =
      let e = earlier t u r (some_tried t s end.tried) (omega arith) tried in
      e.goes l (subst (λ (w : Tried). next (periods d) w ≡ None) (tried_one t s e.state end.tried e.tried) (end.stops spare))

  -- More allowed trials never lead to a dearer plan.
  pub ended_cheaper : (trials more t u : ℕ) (s r : Tried) → trials ≤ more → Ended d trials t s → Ended d more u r
      → cost d (at r.plan) ≤ cost d (at s.plan)
  ended_cheaper trials more t u s r le end end' = go (dec_lt u t)
    where
      go : Dec (u < t) → cost d (at r.plan) ≤ cost d (at s.plan)
      go (yes l) = absurd (none_follows more u t r s end' (omega (arith, end.allowed)) end.tried l)
      go (no l) =
          let e = earlier t u r (some_tried t s end.tried) (omega arith) end'.tried in
          let same = tried_one t e.state s e.tried end.tried in
          omega (arith, e.dearer, ap (λ (w : Tried). cost d (at w.plan)) same)

  -- The trials end in one way.
  pub ended_one : (trials t u : ℕ) (s r : Tried) → Ended d trials t s → Ended d trials u r → (t ≡ u) × (s ≡ r)
  ended_one trials t u s r end end' = go (dec_lt t u) (dec_lt u t)
    where
      go : Dec (t < u) → Dec (u < t) → (t ≡ u) × (s ≡ r)
      go (yes l) q = absurd (none_follows trials t u s r end (omega (arith, end'.allowed)) end'.tried l)
      go (no l) (yes q) = absurd (none_follows trials u t r s end' (omega (arith, end.allowed)) end.tried q)
      go (no l) (no q) =
          let e : t ≡ u = omega arith in
          (e, tried_one u s r (subst (λ (m : ℕ). TriedIn d m s) e end.tried) end'.tried)
