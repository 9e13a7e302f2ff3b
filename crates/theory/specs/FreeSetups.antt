-- Where all setups are free, units served in turn, each from the period that is best for it, are units of the optimal plan (report,
-- section 4). No limit is asked of capacities or of the total; ceilings must not bind.
-- Main definitions: `key`, `Progress`. Main statements: `key_order`; `progress_turn`, what is served stays part of the plan, whether units go one by
-- one or several at once to one period; `no_plan`; `done_optimal`. Assumes nothing.
use Rattle.std.specs.Prelude.{◌≡◌, refl, ◌↔◌, ◌≢◌, ℕ, zero, suc, ◌+◌, ◌-◌, ◌≤◌, ◌<◌, min}
use Rattle.std.proofs.Math.Path.{sym}
use Rattle.std.proofs.Common.{subst, ap, ⊎_elim, eq-or-lt_of_le, le_of_suc-le-suc, arith}
use Rattle.std.proofs.Math.Decide.{dec_lt, ℕ_discrete}
use Rattle.day.specs.Sums.{sum_to, sum_ext, sum_grows}
use Rattle.day.specs.Plan.{making, Precedes}
use Rattle.theory.specs.Model.{Model, Rising, Unlimited, cost_to, FeasibleTo, OptimalTo}
use Rattle.theory.specs.Recursion.{optimal_exists}
use Rattle.theory.specs.Cut.{optimal_ext, floor_below, floor_grows}
use Rattle.theory.specs.Exchange.{only_same, only_other, past_after, past_before, weight}
use Rattle.theory.specs.Exchange.{Movable, moved, at_from, at_other, moved_feasible, moved_cost}
use Rattle.theory.specs.Compare.{sum_le, sum_lt, sum_other, sum_same}
use Rattle.theory.specs.Greedy.{key_of, Source}

abbrev pub Free : Model → ℕ → Type 0
Free M n = (k : ℕ) → k < n → M.setup k ≡ 0

-- by this periods compare
abbrev pub key : Model → ℕ → ℕ → ℕ
key M n = key_of M.unit M.holding n

-- The keys order the periods by unit cost less the holding spared by not making the unit in the first period; said without going below zero.
pub key_order : (M : Model) (n j k : ℕ) → j ≤ n → k ≤ n
    → (key M n j ≤ key M n k) ↔ (M.unit j + sum_to M.holding k ≤ M.unit k + sum_to M.holding j)
key_order M n j k a b =
    let p = sum_grows M.holding j n a in
    let q = sum_grows M.holding k n b in
    (λ h. omega arith, λ h. omega arith)

-- the key is what the exchange of one unit counts
weight_before : (M : Model) (j m : ℕ) → m ≤ j → sum_to (weight M j) m ≡ 0
weight_before M j zero l = refl
weight_before M j (suc m) l = rw (only_other j m (omega arith), past_before j (suc m) l) (omega (arith, weight_before M j m (omega arith)))

weight_last : (M : Model) (m : ℕ) → sum_to (weight M m) (suc m) ≡ key M (suc m) m
weight_last M m = rw (only_same m, past_after m (suc m) (omega arith)) (omega (arith, weight_before M m m (omega arith)))

weight_key : (M : Model) (j m : ℕ) → j < m → sum_to (weight M j) m ≡ key M m j
weight_key M j zero l = absurd (omega arith)
weight_key M j (suc m) l =
    ⊎_elim
    (λ (e : j ≡ m). subst (λ (i : ℕ). sum_to (weight M i) (suc m) ≡ key M (suc m) i) (sym e) (weight_last M m))
    (λ (h : j < m).
    rw (only_other j m (omega arith), past_after j (suc m) l) (omega (arith, weight_key M j m h, sum_grows M.holding j m (omega arith))))
    (eq-or-lt_of_le (le_of_suc-le-suc l))

-- a unit more costs its making alone
free_more : (b p x : ℕ) → b ≡ 0 → making b p (suc x) ≤ making b p x + p
free_more b p zero e = omega arith
free_more b p (suc x) e = omega arith

-- y is x with q more in period k
pub record More (k q : ℕ) (x y : ℕ → ℕ) : Type 0 where
  pub here : y k ≡ q + x k
  pub others : (i : ℕ) → i ≢ k → y i ≡ x i

module _ (k q : ℕ) (x y : ℕ → ℕ) (more : More k q x y) where
  more_low : (m : ℕ) → m ≤ k → sum_to y m ≡ sum_to x m
  more_low m h = sum_ext y x m (λ i b. more.others i (omega arith))

  pub more_high : (m : ℕ) → k < m → sum_to y m ≡ q + sum_to x m
  more_high zero h = absurd (omega arith)
  more_high (suc m) h =
      ⊎_elim
      (λ (e : k ≡ m). omega (arith, more.here, ap x e, ap y e, more_low m (omega arith)))
      (λ (l : k < m). omega (arith, more_high m l, more.others m (omega arith)))
      (eq-or-lt_of_le (le_of_suc-le-suc h))

  -- what holds of every amount, and of the new one, holds after
  more_all : (P : ℕ → ℕ → Type 0) (n : ℕ) → ((i : ℕ) → i < n → P i (x i)) → P k (q + x k) → (i : ℕ) → i < n → P i (y i)
  more_all P n all new i h = go (ℕ_discrete i k)
    where
      go : Dec (i ≡ k) → P i (y i)
      go (yes e) = rw (e, more.here) new
      go (no f) = rw (more.others i f) (all i h)

-- The amounts x serve t units, those due first from the periods up to then, and are part of the optimal plan, if there is one.
pub record Progress (M : Model) (n t : ℕ) (x : ℕ → ℕ) : Type 0 where
  pub sum : sum_to x n ≡ t
  pub within : (k : ℕ) → k < n → x k ≤ M.capacity k
  pub ahead : (i : ℕ) → i ≤ n → min (M.floor i) t ≤ sum_to x i
  pub part : (y : ℕ → ℕ) → OptimalTo M n (M.floor n) y → (k : ℕ) → k < n → x k ≤ y k

-- t units are served, and the next is due within the first d periods, not sooner
pub record Due (M : Model) (n t d : ℕ) (x : ℕ → ℕ) : Type 0 where
  pub progress : Progress M n t x
  pub inside : d ≤ n
  pub before : (i : ℕ) → i < d → M.floor i ≤ t

module _ (M : Model) (rising : Rising M) (unlimited : Unlimited M) (n : ℕ) (free : Free M n) where
  sum_idle : (x : ℕ → ℕ) → ((k : ℕ) → k < n → x k ≡ 0) → (i : ℕ) → i ≤ n → sum_to x i ≡ 0
  sum_idle x idle zero l = refl
  sum_idle x idle (suc i) l = omega (arith, sum_idle x idle i (omega arith), idle i l)

  pub progress_start : (x : ℕ → ℕ) → ((k : ℕ) → k < n → x k ≡ 0) → Progress M n 0 x
  progress_start x idle =
      record {
        sum = sum_idle x idle n (omega arith);
        within = λ k l. omega (arith, idle k l);
        ahead = λ i l. omega arith;
        part = λ y best k l. omega (arith, idle k l);
      }

  module _ (t d : ℕ) (x : ℕ → ℕ) (u : Due M n t d x) where
    served_now : sum_to x d ≤ t
    served_now = omega (arith, u.progress.sum, sum_grows x d n u.inside)

    module _ (y : ℕ → ℕ) (best : OptimalTo M n (M.floor n) y) where
      wanted : M.floor d ≤ sum_to y d
      wanted = floor_below M rising n (M.floor n) y best.feasible d u.inside

      -- where no period has capacity left there was no plan
      pub no_plan : ((j : ℕ) → j < d → M.capacity j ≤ x j) → t < M.floor d → ⊥
      no_plan full owed =
          omega (
            arith,
            served_now,
            wanted,
            sum_le y x d (λ k l. omega (arith, full k l, best.feasible.within k (omega (arith, u.inside)))),
          )

      -- a unit that the plan makes in j, not yet served, would go to k as cheaply, and before the plan in its order
      module _ (j k : ℕ) (s : Source (key M n) M.capacity x d k) (jd : j < d) (apart : j ≢ k) (more-j : x j < y j) (room : y k < M.capacity k) where
        jn : j < n
        jn = omega (arith, u.inside)

        kn : k < n
        kn = omega (arith, u.inside, s.inside)

        room_j : x j < M.capacity j
        room_j = omega (arith, best.feasible.within j jn)

        movable : Movable M n y j k
        movable =
            record {
              rising = rising;
              unlimited = unlimited;
              feasible = best.feasible;
              from_inside = jn;
              to_inside = kn;
              apart = apart;
              some_from = omega arith;
              more = free_more (M.setup k) (M.unit k) (y k) (free k kn);
              room = room;
              spare = λ m a l.
                  omega (
                    arith,
                    sum_lt x y j m a (λ i h. u.progress.part y best i (omega (arith, u.inside, s.inside))) more-j,
                    u.progress.ahead m (omega (arith, u.inside, s.inside)),
                    u.before m (omega (arith, s.inside)),
                  );
            }

        z : ℕ → ℕ
        z = moved M n y j k movable

        first : Precedes (λ w. cost_to M w n) n y z
        unfolding z
        first = best.first (moved M n y j k movable) (moved_feasible M n y j k movable)

        change : cost_to M z n + key M n j ≤ cost_to M y n + key M n k
        unfolding z
        change = omega (arith, moved_cost M n y j k movable, weight_key M j n jn, weight_key M k n kn)

        less : z j ≡ y j - 1
        unfolding z
        less = at_from M n y j k movable

        same : (i : ℕ) → i ≢ j → i ≢ k → y i ≡ z i
        unfolding z
        same i a b = sym (at_other M n y j k movable i a b)

        clash : ⊥
        clash = go (dec_lt j k)
          where
            go : Dec (j < k) → ⊥
            go (yes h) = omega (arith, first.cheap, change, s.early j h room_j)
            go (no h) =
                omega (
                  arith,
                  first.small (omega (arith, first.cheap, change, s.cheap j jd room_j)) j jn (λ i a b. same i (omega arith) (omega (arith, apart))),
                  less,
                )

      -- q units more in the period that is best are part of the plan
      more_part : (k q : ℕ) → Source (key M n) M.capacity x d k → q + x k ≤ M.capacity k → q + t ≤ M.floor d → q + x k ≤ y k
      more_part k q s room owed = go (dec_lt (y k) (q + x k))
        where
          so_far : x k ≤ y k
          so_far = u.progress.part y best k (omega (arith, u.inside, s.inside))

          go : Dec (y k < q + x k) → q + x k ≤ y k
          go (no h) = omega arith
          go (yes h) =
              let w = sum_other x y k d (omega (arith, served_now, wanted, so_far)) in
              absurd (clash w.0 k s w.1 w.2 w.3 (omega arith))

    -- the law of one turn
    pub progress_turn : (k q : ℕ) (x' : ℕ → ℕ) → Source (key M n) M.capacity x d k → More k q x x'
        → q + x k ≤ M.capacity k → q + t ≤ M.floor d → Progress M n (q + t) x'
    progress_turn k q x' s more room owed =
        record {
          sum = omega (arith, more_high k q x x' more n kn, u.progress.sum);
          within = more_all k q x x' more (λ (i v : ℕ). v ≤ M.capacity i) n u.progress.within room;
          ahead = λ i l. ahead_at i l (dec_lt k i);
          part = λ y best. more_all k q x x' more (λ (i v : ℕ). v ≤ y i) n (u.progress.part y best) (more_part y best k q s room owed);
        }
      where
        kn : k < n
        kn = omega (arith, u.inside, s.inside)

        ahead_at : (i : ℕ) → i ≤ n → Dec (k < i) → min (M.floor i) (q + t) ≤ sum_to x' i
        ahead_at i l (yes h) = omega (arith, more_high k q x x' more i h, u.progress.ahead i l)
        ahead_at i l (no h) = omega (arith, more_low k q x x' more i (omega arith), u.progress.ahead i l, u.before i (omega (arith, s.inside)))

  -- once all is served the amounts keep the rules, and are the plan
  done_feasible : (x : ℕ → ℕ) → Progress M n (M.floor n) x → FeasibleTo M n (M.floor n) x
  done_feasible x p =
      record {
        total = p.sum;
        within = p.within;
        served = λ k l. omega (arith, p.ahead (suc k) l, floor_grows M rising (suc k) n l);
        under = λ k l. omega (arith, sum_grows x (suc k) n l, p.sum, unlimited n (suc k));
      }

  pub done_optimal : (x : ℕ → ℕ) → Progress M n (M.floor n) x → OptimalTo M n (M.floor n) x
  done_optimal x p =
      let w = optimal_exists M n (M.floor n) x (done_feasible x p) in
      let best = w.1 in
      optimal_ext M n (M.floor n) w.0 x
      (λ k l. sym (sum_same x w.0 n (p.part w.0 best) (omega (arith, p.sum, best.feasible.total)) k l))
      best
