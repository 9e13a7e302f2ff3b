-- The exchange of one unit between two periods, and what it says of the optimal plan, for any capacities (report, section 3).
-- A fractional period is what operators call a part-loaded one, and a regeneration interval its run (of the net needs: finer while A lasts).
-- Main statements: `exchange`, `interval_one`: in a regeneration interval of the optimal plan no two periods are fractional. Assumes nothing.
use Rattle.std.specs.Prelude.{◌≡◌, ◌≢◌, ℕ, zero, suc, ◌+◌, ◌-◌, ◌*◌, ◌≤◌, ◌<◌, min}
use Rattle.std.proofs.Common.{sym, ap, ⊎_elim, eq-or-lt_of_le, arith}
use Rattle.std.proofs.Math.Decide.{dec_le, dec_lt, ℕ_discrete}
use Rattle.day.specs.Sums.{sum_to, sum_grows}
use Rattle.theory.specs.Model.{Model, Rising, Unlimited, production, cost_at, cost_to, FeasibleTo, OptimalTo}
use Rattle.theory.specs.Cut.{floor_below}

-- 1 in period j, 0 in the others
pub only : ℕ → ℕ → ℕ
only j k = 1 - ((k - j) + (j - k))

-- 1 once period j is past
pub past : ℕ → ℕ → ℕ
past j m = min 1 (m - j)

pub only_same : (j : ℕ) → only j j ≡ 1
unfolding only
only_same j = omega arith

pub only_other : (j k : ℕ) → k ≢ j → only j k ≡ 0
unfolding only
only_other j k h = omega arith

pub past_after : (j m : ℕ) → j < m → past j m ≡ 1
unfolding past
past_after j m h = omega arith

pub past_before : (j m : ℕ) → m ≤ j → past j m ≡ 0
unfolding past
past_before j m h = omega arith

past_one : (j m : ℕ) → past j m ≤ 1
unfolding past
past_one j m = omega arith

pub sum_only : (j m : ℕ) → sum_to (only j) m ≡ past j m
unfolding only past
sum_only j zero = omega arith
sum_only j (suc m) = omega (arith, sum_only j m)

sums_le : (f a g b : ℕ → ℕ) (n : ℕ) → ((k : ℕ) → k < n → f k + a k ≤ g k + b k) → sum_to f n + sum_to a n ≤ sum_to g n + sum_to b n
sums_le f a g b zero h = omega arith
sums_le f a g b (suc n) h = omega (arith, sums_le f a g b n (λ k l. h k (omega arith)), h n (omega arith))

sums_eq : (f a g b : ℕ → ℕ) (n : ℕ) → ((k : ℕ) → k < n → f k + a k ≡ g k + b k) → sum_to f n + sum_to a n ≡ sum_to g n + sum_to b n
sums_eq f a g b zero h = omega arith
sums_eq f a g b (suc n) h = omega (arith, sums_eq f a g b n (λ k l. h k (omega arith)), h n (omega arith))

-- what holds at i, at j and elsewhere
cases : (P : ℕ → Type 0) (i j : ℕ) → P i → P j → ((k : ℕ) → k ≢ i → k ≢ j → P k) → (k : ℕ) → P k
cases P i j pi pj other k = go (ℕ_discrete k i) (ℕ_discrete k j)
  where
    go : Dec (k ≡ i) → Dec (k ≡ j) → P k
    go (yes e) d = rw e pi
    go (no h) (yes e) = rw e pj
    go (no h) (no g) = other k h g

-- what a unit more costs in period k where something is made
module _ (M : Model) (k : ℕ) where
  production_less : (x : ℕ) → production M k x + M.unit k ≤ production M k (suc x)
  production_less zero = omega arith
  production_less (suc x) = omega arith

  production_more : (x : ℕ) → 0 < x → production M k (suc x) ≤ production M k x + M.unit k
  production_more zero h = absurd (omega arith)
  production_more (suc x) h = omega arith

times : (h a b c d : ℕ) → a + b ≡ c + d → h * a + h * b ≡ h * c + h * d
times h a b c d e = omega (arith, ap (λ (v : ℕ). h * v) e)

-- what a unit made in period j costs in period k: to make it, and to hold it from then on
abbrev pub weight : Model → ℕ → ℕ → ℕ
weight M j k = M.unit k * only j k + M.holding k * past j (suc k)

-- a unit can be moved from one period to another, at no new setup
pub record Movable (M : Model) (n : ℕ) (x : ℕ → ℕ) (from to : ℕ) : Type 0 where
  pub rising : Rising M
  pub unlimited : Unlimited M
  pub feasible : FeasibleTo M n (M.floor n) x
  pub from_inside : from < n
  pub to_inside : to < n
  pub apart : from ≢ to
  pub some_from : 0 < x from
  pub more : production M to (suc (x to)) ≤ production M to (x to) + M.unit to
  pub room : x to < M.capacity to
  pub spare : (m : ℕ) → from < m → m ≤ to → M.floor m < sum_to x m

module _ (M : Model) (n : ℕ) (x : ℕ → ℕ) (from to : ℕ) (c : Movable M n x from to) where
  pub moved : ℕ → ℕ
  moved k = x k + only to k - only from k

  away : to ≢ from
  away e = c.apart (sym e)

  pub at_from : moved from ≡ x from - 1
  unfolding moved
  at_from = omega (arith, only_same from, only_other to from c.apart)

  pub at_to : moved to ≡ suc (x to)
  unfolding moved
  at_to = omega (arith, only_same to, only_other from to away)

  pub at_other : (k : ℕ) → k ≢ from → k ≢ to → moved k ≡ x k
  unfolding moved
  at_other k a b = omega (arith, only_other from k a, only_other to k b)

  moved_at : (k : ℕ) → moved k + only from k ≡ x k + only to k
  moved_at =
      cases (λ (k : ℕ). moved k + only from k ≡ x k + only to k) from to
      (omega (arith, at_from, only_same from, only_other to from c.apart))
      (omega (arith, at_to, only_same to, only_other from to away))
      (λ k a b. omega (arith, at_other k a b, only_other from k a, only_other to k b))

  moved_sum : (m : ℕ) → sum_to moved m + past from m ≡ sum_to x m + past to m
  moved_sum m = omega (arith, sums_eq moved (only from) x (only to) m (λ k _. moved_at k), sum_only from m, sum_only to m)

  moved_served : (m : ℕ) → m ≤ n → M.floor m ≤ sum_to moved m
  moved_served m l = go (dec_lt from m) (dec_le m to)
    where
      go : Dec (from < m) → Dec (m ≤ to) → M.floor m ≤ sum_to moved m
      go (yes a) (yes b) = omega (arith, c.spare m a b, moved_sum m, past_one from m)
      go (yes a) (no b) =
          omega (arith, floor_below M c.rising n (M.floor n) x c.feasible m l, moved_sum m, past_after to m (omega arith), past_one from m)
      go (no a) d = omega (arith, floor_below M c.rising n (M.floor n) x c.feasible m l, moved_sum m, past_before from m (omega arith))

  moved_total : sum_to moved n ≡ M.floor n
  moved_total = omega (arith, moved_sum n, c.feasible.total, past_after from n c.from_inside, past_after to n c.to_inside)

  pub moved_feasible : FeasibleTo M n (M.floor n) moved
  moved_feasible =
      record {
        total = moved_total;
        within = cases (λ (k : ℕ). k < n → moved k ≤ M.capacity k) from to
            (λ l. omega (arith, at_from, c.feasible.within from c.from_inside))
            (λ l. omega (arith, at_to, c.room))
            (λ k a b l. omega (arith, at_other k a b, c.feasible.within k l));
        served = λ k l. moved_served (suc k) l;
        under = λ k l. omega (arith, sum_grows moved (suc k) n l, moved_total, c.unlimited n (suc k));
      }

  abbrev Cheaper : ℕ → Type 0
  Cheaper k = production M k (moved k) + M.unit k * only from k ≤ production M k (x k) + M.unit k * only to k

  moved_production : (k : ℕ) → Cheaper k
  moved_production =
      cases Cheaper from to
      (rw (at_from, only_same from, only_other to from c.apart) (omega (arith, production_less M from (x from - 1), ap (production M from) less)))
      (rw (at_to, only_same to, only_other from to away) (omega (arith, c.more)))
      (λ k a b. rw (at_other k a b, only_other from k a, only_other to k b) (omega arith))
    where
      less : suc (x from - 1) ≡ x from
      less = omega (arith, c.some_from)

  pub moved_cost : cost_to M moved n + sum_to (weight M from) n ≤ cost_to M x n + sum_to (weight M to) n
  moved_cost =
      sums_le (cost_at M moved) (weight M from) (cost_at M x) (weight M to) n
      (λ k l.
      omega (
        arith,
        moved_production k,
        times (M.holding k) (sum_to moved (suc k) - M.floor (suc k)) (past from (suc k)) (sum_to x (suc k) - M.floor (suc k)) (past to (suc k))
            (omega (arith, moved_sum (suc k), moved_served (suc k) l, c.feasible.served k l)),
      ))

-- a fractional period: it makes something, and less than its capacity
pub record Fractional (M : Model) (n : ℕ) (x : ℕ → ℕ) (k : ℕ) : Type 0 where
  pub inside : k < n
  pub some : 0 < x k
  pub room : x k < M.capacity k

-- In the optimal plan no two periods are fractional with the inventory above 0 from the first to the second.
pub exchange : (M : Model) → Rising M → Unlimited M → (n : ℕ) (x : ℕ → ℕ) → OptimalTo M n (M.floor n) x
    → (i j : ℕ) → i < j → Fractional M n x i → Fractional M n x j
    → ((m : ℕ) → i < m → m ≤ j → M.floor m < sum_to x m) → ⊥
exchange M rising unlimited n x best i j l pi pj spare =
    let apart : i ≢ j = omega arith in
    -- a unit made in i, not in j, and the other way
    let sooner : Movable M n x j i =
    record {
      rising = rising;
      unlimited = unlimited;
      feasible = best.feasible;
      from_inside = pj.inside;
      to_inside = pi.inside;
      apart = λ e. apart (sym e);
      some_from = pj.some;
      more = production_more M i (x i) pi.some;
      room = pi.room;
      spare = λ m a b. absurd (omega arith);
    } in
    let later : Movable M n x i j =
    record {
      rising = rising;
      unlimited = unlimited;
      feasible = best.feasible;
      from_inside = pi.inside;
      to_inside = pj.inside;
      apart = apart;
      some_from = pi.some;
      more = production_more M j (x j) pj.some;
      room = pj.room;
      spare = spare;
    } in
    let p = moved M n x j i sooner in
    let first = best.first p (moved_feasible M n x j i sooner) in
    let other = best.first (moved M n x i j later) (moved_feasible M n x i j later) in
    let c = moved_cost M n x j i sooner in
    let d = moved_cost M n x i j later in
    let less : x j ≤ p j =
    first.small (omega (arith, first.cheap, other.cheap)) j pj.inside
    (λ k a b. sym (at_other M n x j i sooner k (omega arith) (omega arith))) in
    omega (arith, at_from M n x j i sooner, pj.some)

-- the periods a .. b - 1, from an empty inventory on, with none empty in between: where it is empty after b too, a regeneration interval
pub record Regeneration (M : Model) (x : ℕ → ℕ) (a b : ℕ) : Type 0 where
  pub ahead : a < b
  pub empty : sum_to x a ≡ M.floor a
  pub never : (m : ℕ) → a < m → m < b → M.floor m < sum_to x m

-- Between two moments, where the inventory is never empty once something is made, no two periods of the optimal plan are fractional.
pub interval_one : (M : Model) → Rising M → Unlimited M → (n : ℕ) (x : ℕ → ℕ) → OptimalTo M n (M.floor n) x
    → (a b : ℕ) → ((m : ℕ) → a < m → m < b → 0 < sum_to x m → M.floor m < sum_to x m)
    → (i j : ℕ) → a ≤ i → i < j → j < b → Fractional M n x i → Fractional M n x j → ⊥
interval_one M rising unlimited n x best a b never i j ai ij jb pi pj =
    exchange M rising unlimited n x best i j ij pi pj
    (λ m u v. never m (omega arith) (omega arith) (omega (arith, sum_grows x (suc i) m u, pi.some)))

-- the last moment before n at which the inventory was empty
pub last_run : (M : Model) → Rising M → (X : ℕ) (x : ℕ → ℕ) (n : ℕ) → 0 < n → FeasibleTo M n X x → (a : ℕ) × Regeneration M x a n
last_run M rising X x n pos r = down (n - 1) (omega arith) (λ m u v. absurd (omega arith))
  where
    step : (i : ℕ) → suc i < n → ((m : ℕ) → suc i < m → m < n → M.floor m < sum_to x m)
        → (((m : ℕ) → i < m → m < n → M.floor m < sum_to x m) → (a : ℕ) × Regeneration M x a n)
        → Dec (M.floor (suc i) < sum_to x (suc i)) → (a : ℕ) × Regeneration M x a n
    step i l above rec (yes h) =
        rec (λ m u v. ⊎_elim (λ (e : suc i ≡ m). rw (← e) h) (λ g. above m g v) (eq-or-lt_of_le u))
    step i l above rec (no h) =
        (suc i, record { ahead = l; empty = omega (arith, floor_below M rising n X x r (suc i) (omega arith)); never = above })

    down : (i : ℕ) → i < n → ((m : ℕ) → i < m → m < n → M.floor m < sum_to x m) → (a : ℕ) × Regeneration M x a n
    down zero l above = (0, record { ahead = l; empty = omega (arith, rising.nought); never = above })
    down (suc i) l above = step i l above (λ w. down i (omega arith) w) (dec_lt (M.floor (suc i)) (sum_to x (suc i)))
