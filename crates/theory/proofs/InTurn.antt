-- The rule for days without setup cost, watt-hour by watt-hour and in its signed order, gives the day's plan; where there is a plan it comes
-- to its end. So the batches of the loop, which give the plan too, make what the rule makes.
-- Main statements: `key_signed`, the keys that the loop compares order the periods as the signed form does; `in_turn_optimal`; `in_turn_serves`.
-- Assumes nothing.
use Rattle.std.specs.Prelude.{◌≡◌, refl, Bool, true, false, cond, ◌↔◌, ℕ, zero, suc, ◌+◌, ◌-◌, ◌≤◌, ◌<◌, ltb, ℤ, pos, negsuc, ◌-ℤ◌, ◌≤ℤ◌, Option, None, Some}
use Rattle.std.proofs.Common.{sym, ◌∙◌, subst, le_of_suc-le-suc, arith, leb→le, le→leb, ltb-true, ltb-false}
use Rattle.std.proofs.Math.Decide.{dec_lt}
use Rattle.std.specs.Int.Signed.{le_z_yes}
use Rattle.day.specs.Sums.{at, sum_to, sum_ext}
use Rattle.day.specs.Day.{Day, periods, total, net_to, net_end}
use Rattle.day.specs.Plan.{Feasible, Optimal}
use Rattle.day.specs.InTurn.{spared, signed_cost, Cheapest, NeededIn, ServedTo}
use Rattle.theory.specs.Model.{Model, OptimalTo, FeasibleTo}
use Rattle.theory.specs.Recursion.{optimal_exists}
use Rattle.theory.specs.Cut.{floor_grows}
use Rattle.theory.specs.Exchange.{only, only_same, only_other}
use Rattle.theory.specs.Greedy.{source, Source, Sources, source_right}
use Rattle.theory.specs.FreeSetups.{Free, key, key_order, Progress, Due, progress_start, progress_turn, no_plan, done_optimal}
use Rattle.theory.specs.Problem.{model_of, model_rising, model_unlimited}
use Rattle.theory.specs.Net.{rate_of, problem_of, Fits, rate_is, net_zero, floor_is}
use Rattle.theory.specs.Store.{Loose}
use Rattle.theory.proofs.Base.{loose_feasible, loose_plan}

-- a less b is z
abbrev Less : (a b : ℕ) → ℤ → Type 0
Less a b (pos k) = a ≡ b + k
Less a b (negsuc k) = b ≡ a + suc k

less_right : (a b : ℕ) → Less a b (pos a -ℤ pos b)
less_right a zero = omega arith
less_right a (suc b) = go (ltb a (suc b)) refl
  where
    go : (t : Bool) → ltb a (suc b) ≡ t → Less a (suc b) (cond t (negsuc (suc b - suc a)) (pos (a - suc b)))
    go true e = let l = ltb-true a (suc b) e in omega arith
    go false e = let l = ltb-false a (suc b) e in omega arith

-- differences compare as sums do
order : (a b c d : ℕ) (y z : ℤ) → Less a b y → Less c d z → (y ≤ℤ z) ↔ (a + d ≤ c + b)
order a b c d (pos k) (pos l) p q = (λ h. omega (arith, leb→le k l h.le), λ h. le_z_yes (le→leb k l (omega arith)))
order a b c d (pos k) (negsuc l) p q = (λ h. absurd h.le, λ h. absurd (omega arith))
order a b c d (negsuc k) (pos l) p q = (λ h. omega arith, λ h. le_z_yes tt)
order a b c d (negsuc k) (negsuc l) p q = (λ h. omega (arith, leb→le l k h.le), λ h. le_z_yes (le→leb l k (omega arith)))

module _ (d : Day) where
  abbrev M : Model
  M = model_of (problem_of d)

  abbrev n : ℕ
  n = periods d

  spared_is : (k : ℕ) → sum_to M.holding k ≡ spared d k
  spared_is k = sum_ext M.holding (rate_of d.holding) k (λ j l. rate_is d.holding j)

  -- The keys, which never lie below zero, order the periods as unit cost less the upkeep spared does.
  pub key_signed : (j k : ℕ) → j ≤ n → k ≤ n → (key M n j ≤ key M n k) ↔ (signed_cost d j ≤ℤ signed_cost d k)
  key_signed j k a b =
      let s = key_order M n j k a b in
      let o =
      order (at d.unit j) (spared d j) (at d.unit k) (spared d k) (signed_cost d j) (signed_cost d k)
      (less_right (at d.unit j) (spared d j)) (less_right (at d.unit k) (spared d k)) in
      let here = spared_is j in
      let there = spared_is k in
      (λ h. o.1 (omega (arith, s.0 h)), λ h. s.1 (omega (arith, o.0 h)))

  -- so the period that the rule takes is the one that the loop finds
  cheapest_source : (x : ℕ → ℕ) (i k : ℕ) → i < n → Cheapest d x i k → Source (key M n) M.capacity x (suc i) k
  cheapest_source x i k l c =
      let before = c.before in
      record {
        inside = omega arith;
        room = c.room;
        cheap = λ j h r. (key_signed k j (omega arith) (omega arith)).1 (c.cheap j (le_of_suc-le-suc h) r);
        early = λ j h r. dearer j h r (dec_lt (key M n k) (key M n j));
      }
    where
      dearer : (j : ℕ) → j < k → x j < at d.capacity j → Dec (key M n k < key M n j) → key M n k < key M n j
      dearer j h r (yes q) = q
      dearer j h r (no q) =
          absurd (c.early j h r ((key_signed j k (omega (arith, c.before)) (omega (arith, c.before))).0 (omega arith)))

  source_cheapest : (x : ℕ → ℕ) (i k : ℕ) → i < n → Source (key M n) M.capacity x (suc i) k → Cheapest d x i k
  source_cheapest x i k l s =
      let inside = s.inside in
      record {
        before = le_of_suc-le-suc s.inside;
        room = s.room;
        cheap = λ j h r. (key_signed k j (omega arith) (omega arith)).0 (s.cheap j (omega arith) r);
        early = λ j h r q. omega (arith, s.early j h r, (key_signed j k (omega arith) (omega arith)).1 q);
      }

  -- a watt-hour that is owed after i periods is needed in one of them
  needed_in : Fits d → (t i : ℕ) → i ≤ n → t < net_to d i → (k : ℕ) × NeededIn d t k
  needed_in fits t zero l h = absurd (omega (arith, net_zero d fits.nonempty))
  needed_in fits t (suc i) l h = go (dec_lt t (net_to d i)) (λ q. needed_in fits t i (omega arith) q)
    where
      go : Dec (t < net_to d i) → (t < net_to d i → (k : ℕ) × NeededIn d t k) → (k : ℕ) × NeededIn d t k
      go (yes q) old = old q
      go (no q) old = (i, record { inside = l; past = omega arith; owed = h })

  -- Of a day that tests 1, 14 and 16 let pass, without setup cost.
  module _ (loose : Loose d) (free : Free M n) where
    fits : Fits d
    fits = loose.fits

    floor_here : (i : ℕ) → i ≤ n → M.floor i ≡ net_to d i
    floor_here = floor_is d fits.nonempty

    floor_total : M.floor n ≡ total d
    floor_total = floor_here n (omega arith) ∙ net_end d

    due : (t i : ℕ) (x : ℕ → ℕ) → NeededIn d t i → Progress M n t x → Due M n t (suc i) x
    due t i x needed p =
        let inside = needed.inside in
        record {
          progress = p;
          inside = inside;
          before = λ j h.
              omega (arith, floor_grows M (model_rising (problem_of d)) j i (le_of_suc-le-suc h), floor_here i (omega arith), needed.past);
        }

    -- what the rule has served is part of the plan
    progress : (t : ℕ) (y : ℕ → ℕ) → ServedTo d t y → Progress M n t y
    progress zero y idle = progress_start M (model_rising (problem_of d)) (model_unlimited (problem_of d)) n free y (λ k l. idle k)
    progress (suc t) y (x, served, next) =
        let inside = next.needed.inside in
        let best = cheapest_source x next.need next.from next.needed.inside next.cheapest in
        let one : 1 + t ≡ suc t = omega arith in
        rw one at
        (progress_turn M (model_rising (problem_of d)) (model_unlimited (problem_of d)) n free t (suc next.need) x
        (due t next.need x next.needed (progress t x served)) next.from 1 y best
        (record { here = omega (arith, next.here); others = next.others })
        (omega (arith, next.cheapest.room))
        (omega (arith, next.needed.owed, floor_here (suc next.need) inside)))

    -- Once all are served, it is the plan.
    pub in_turn_optimal : (y : ℕ → ℕ) → ServedTo d (total d) y → Optimal d y
    in_turn_optimal y served =
        (loose_plan d loose y).1
        (subst (λ (T : ℕ). OptimalTo M n T y) floor_total
        (done_optimal M (model_rising (problem_of d)) (model_unlimited (problem_of d)) n free y
        (subst (λ (T : ℕ). Progress M n T y) (sym floor_total) (progress (total d) y served))))

    -- Where there is a plan, the rule finds a period for every watt-hour.
    module _ (z : ℕ → ℕ) (f : Feasible d z) where
      best : (w : ℕ → ℕ) × OptimalTo M n (M.floor n) w
      best = optimal_exists M n (M.floor n) z (subst (λ (T : ℕ). FeasibleTo M n T z) (sym floor_total) ((loose_feasible d loose z).0 f))

      one_more : (t i : ℕ) (x : ℕ → ℕ) → NeededIn d t i → ServedTo d t x
          → (o : Option ℕ) → Sources (key M n) M.capacity x (suc i) o → (y : ℕ → ℕ) × ServedTo d (suc t) y
      one_more t i x needed served None full =
          absurd (
          no_plan M (model_rising (problem_of d)) (model_unlimited (problem_of d)) n free t (suc i) x
          (due t i x needed (progress t x served)) best.0 best.1 full
          (omega (arith, needed.owed, floor_here (suc i) needed.inside))
          )
      one_more t i x needed served (Some k) s = (
        λ j. only k j + x j,
        (
          x,
          served,
          record {
            need = i;
            from = k;
            needed = needed;
            cheapest = source_cheapest x i k needed.inside s;
            here = omega (arith, only_same k);
            others = λ j h. omega (arith, only_other k j h);
          },
        ),
      )

      served_to : (t : ℕ) → t ≤ total d → (y : ℕ → ℕ) × ServedTo d t y
      served_to zero l = (λ _. 0, λ k. refl)
      served_to (suc t) l =
          let r = served_to t (omega arith) in
          let w = needed_in fits t n (omega arith) (omega (arith, net_end d)) in
          one_more t w.0 r.0 w.1 r.1 (source (key M n) M.capacity r.0 (suc w.0))
          (source_right (key M n) M.capacity r.0 (suc w.0))

      pub in_turn_serves : (y : ℕ → ℕ) × ServedTo d (total d) y
      in_turn_serves = served_to (total d) (omega arith)
