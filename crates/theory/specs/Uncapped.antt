-- Where no capacity can bind, a regeneration interval is made in its first period: the plan of (m, N m) by a search over where the
-- inventory was last empty.
-- Main statements: `copy_step`, `run_step`. Assumes nothing.
use Rattle.std.specs.Prelude.{◌≡◌, refl, ℕ, zero, suc, ◌+◌, ◌-◌, ◌*◌, ◌≤◌, ◌<◌}
use Rattle.std.proofs.Common.{sym, ap, ◌∙◌, ⊎_elim, eq-or-lt_of_le, eq-zero-or-pos, le_of_suc-le-suc, arith}
use Rattle.std.proofs.Math.Decide.{dec_lt}
use Rattle.day.specs.Sums.{sum_to, sum_ext, sum_grows}
use Rattle.day.specs.Plan.{Smaller, Precedes}
use Rattle.theory.specs.Model.{Model, Rising, Unlimited, production, cost_at, cost_to, FeasibleTo, OptimalTo}
use Rattle.theory.specs.Order.{precedes_trans, smaller_before}
use Rattle.theory.specs.Cut.{cost_ext, cut_empty, floor_below, floor_grows, feasible_less}
use Rattle.theory.specs.Recursion.{optimal_exists, optimal_unique}
use Rattle.theory.specs.Exchange.{Regeneration, exchange, last_run}

abbrev pub Uncapped : Model → ℕ → Type 0
Uncapped M n = (k : ℕ) → k < n → M.floor n ≤ M.floor k + M.capacity k

pub uncapped_less : (M : Model) → Rising M → (m n : ℕ) → m ≤ n → Uncapped M n → Uncapped M m
uncapped_less M rising m n h u k l = omega (arith, u k (omega arith), floor_grows M rising m n h)

-- z is y in the first l periods, makes in period l all that is demanded by m, and nothing after it
pub record Through (M : Model) (l m : ℕ) (y z : ℕ → ℕ) : Type 0 where
  pub low : (k : ℕ) → k < l → z k ≡ y k
  pub here : z l ≡ M.floor m - M.floor l
  pub idle : (k : ℕ) → l < k → k < m → z k ≡ 0

-- what it costs in the first i periods to hold what is demanded by m
abbrev pub held : Model → ℕ → ℕ → ℕ
held M m i = sum_to (λ k. M.holding k * (M.floor m - M.floor (suc k))) i

-- the same from l on
abbrev pub rest : Model → ℕ → ℕ → ℕ
rest M m l = held M m m - held M m l

-- what it costs to come to m from l, where to come to l costs `costs l`
abbrev pub price : Model → (ℕ → ℕ) → ℕ → ℕ → ℕ
price M costs m l = costs l + production M l (M.floor m - M.floor l) + rest M m l

module _ (M : Model) (rising : Rising M) (unlimited : Unlimited M) (l m : ℕ) (lt : l < m) (y z : ℕ → ℕ)
    (full : sum_to y l ≡ M.floor l) (t : Through M l m y z) where
  low_sum : (j : ℕ) → j ≤ l → sum_to z j ≡ sum_to y j
  low_sum j h = sum_ext z y j (λ k a. t.low k (omega arith))

  high_sum : (j : ℕ) → l < j → j ≤ m → sum_to z j ≡ M.floor m
  high_sum zero a b = absurd (omega arith)
  high_sum (suc j) a b =
      ⊎_elim
      (λ (e : l ≡ j). rw (← e) (omega (arith, low_sum l (omega arith), t.here, floor_grows M rising l m (omega arith))))
      (λ h. omega (arith, high_sum j h (omega arith), t.idle j h b))
      (eq-or-lt_of_le (le_of_suc-le-suc a))

  pub through_feasible : M.floor m ≤ M.floor l + M.capacity l → FeasibleTo M l (M.floor l) y → FeasibleTo M m (M.floor m) z
  through_feasible room r =
      record {
        total = high_sum m lt (omega arith);
        within = λ k h. at_within k h (dec_lt k l) (dec_lt l k);
        served = λ k h. at_served k h (dec_lt k l);
        under = λ k h. omega (arith, sum_grows z (suc k) m h, high_sum m lt (omega arith), unlimited m (suc k));
      }
    where
      at_within : (k : ℕ) → k < m → Dec (k < l) → Dec (l < k) → z k ≤ M.capacity k
      at_within k h (yes a) d = omega (arith, t.low k a, r.within k a)
      at_within k h (no a) (yes b) = omega (arith, t.idle k b h)
      at_within k h (no a) (no b) = let e : k ≡ l = omega arith in rw e (omega (arith, t.here))

      at_served : (k : ℕ) → k < m → Dec (k < l) → M.floor (suc k) ≤ sum_to z (suc k)
      at_served k h (yes a) = omega (arith, low_sum (suc k) a, r.served k a)
      at_served k h (no a) = omega (arith, high_sum (suc k) (omega arith) h, floor_grows M rising (suc k) m h)

  first_cost : cost_at M z l ≡ production M l (M.floor m - M.floor l) + M.holding l * (M.floor m - M.floor (suc l))
  first_cost = let e = high_sum (suc l) (omega arith) lt in let f = t.here in rw (e, f) refl

  later_cost : (k : ℕ) → l < k → k < m → cost_at M z k ≡ M.holding k * (M.floor m - M.floor (suc k))
  later_cost k a b = let e = high_sum (suc k) (omega arith) b in let f = ap (production M k) (t.idle k a b) in rw e (omega arith)

  costs_through : (j : ℕ) → l < j → j ≤ m → cost_to M z j + held M m l ≡ cost_to M y l + production M l (M.floor m - M.floor l) + held M m j
  costs_through zero a b = absurd (omega arith)
  costs_through (suc j) a b =
      ⊎_elim
      (λ (e : l ≡ j). rw (← e) (omega (arith, cost_ext M z y l t.low, first_cost)))
      (λ h. omega (arith, costs_through j h (omega arith), later_cost j h b))
      (eq-or-lt_of_le (le_of_suc-le-suc a))

  pub through_cost : (costs : ℕ → ℕ) → costs l ≡ cost_to M y l → cost_to M z m ≡ price M costs m l
  through_cost costs e =
      omega (arith, costs_through m lt (omega arith), sum_grows (λ k. M.holding k * (M.floor m - M.floor (suc k))) l m (omega arith))

-- Where nothing more is demanded, the plan goes on with 0.
pub copy_step : (M : Model) → Rising M → Unlimited M → (m : ℕ) → M.floor (suc m) ≡ M.floor m
    → (x z : ℕ → ℕ) → OptimalTo M m (M.floor m) x → Through M m (suc m) x z → OptimalTo M (suc m) (M.floor (suc m)) z
copy_step M rising unlimited m same x z b t =
    record { feasible = mine; first = ahead }
  where
    none : z m ≡ 0
    none = omega (arith, t.here)

    mine : FeasibleTo M (suc m) (M.floor (suc m)) z
    mine = through_feasible M rising unlimited m (suc m) (omega arith) x z b.feasible.total t (omega arith) b.feasible

    last : (y : ℕ → ℕ) → FeasibleTo M (suc m) (M.floor (suc m)) y → y m ≡ 0
    last y r = omega (arith, floor_below M rising (suc m) (M.floor (suc m)) y r m (omega arith), r.total)

    before : (y : ℕ → ℕ) → FeasibleTo M (suc m) (M.floor (suc m)) y → FeasibleTo M m (M.floor m) y
    before y r =
        let e : sum_to y m ≡ M.floor m = omega (arith, last y r, r.total) in
        rw e at (feasible_less M m (suc m) (M.floor (suc m)) y (omega arith) r)

    paid : (y : ℕ → ℕ) → FeasibleTo M (suc m) (M.floor (suc m)) y → cost_to M y (suc m) ≡ cost_to M y m
    paid y r =
        let e : sum_to y (suc m) - M.floor (suc m) ≡ 0 = omega (arith, r.total) in
        omega (arith, ap (production M m) (last y r), ap (λ (v : ℕ). M.holding m * v) e)

    ahead : (y : ℕ → ℕ) → FeasibleTo M (suc m) (M.floor (suc m)) y → Precedes (λ w. cost_to M w (suc m)) (suc m) z y
    ahead y r =
        let p = b.first y (before y r) in
        let c = cost_ext M z x m t.low in
        let d = paid z mine in
        let e = paid y r in
        record {
          cheap = omega (arith, p.cheap);
          small = λ q. smaller_before m z y (none ∙ sym (last y r))
              (λ k lt alike. omega (arith, t.low k lt, p.small (omega arith) k lt (λ j g h. sym (t.low j h) ∙ alike j g h)));
        }

-- A regeneration interval of the optimal plan is made in its first period.
module _ (M : Model) (rising : Rising M) (unlimited : Unlimited M) (m : ℕ) (room : Uncapped M m) (x : ℕ → ℕ) (best : OptimalTo M m (M.floor m) x)
    (a : ℕ) (run : Regeneration M x a m) where
  run_idle : (k : ℕ) → a < k → k < m → x k ≡ 0
  run_idle k l h =
      ⊎_elim (λ (e : x k ≡ 0). e)
      (λ (some : 0 < x k).
      let t = best.feasible.total in
      let upto = sum_grows x (suc a) k l in
      let all = sum_grows x (suc k) m h in
      let e = run.empty in
      absurd
      (exchange M rising unlimited m x best a k l
      (record {
        inside = run.ahead;
        some = omega (arith, run.never (suc a) (omega arith) (omega arith), rising.rises a);
        room = omega (arith, room a run.ahead);
      })
      (record { inside = h; some = some; room = omega (arith, room k h, run.never k l h) })
      (λ j u v. run.never j u (omega arith))))
      (eq-zero-or-pos (x k))

  run_sum : (j : ℕ) → a < j → j ≤ m → sum_to x j ≡ M.floor a + x a
  run_sum zero u v = absurd (omega arith)
  run_sum (suc j) u v =
      ⊎_elim
      (λ (e : a ≡ j). rw (← e) (omega (arith, run.empty)))
      (λ h. omega (arith, run_sum j h (omega arith), run_idle j h v))
      (eq-or-lt_of_le (le_of_suc-le-suc u))

  pub run_through : (y : ℕ → ℕ) → OptimalTo M a (M.floor a) y → Through M a m y x
  run_through y b =
      record {
        low = optimal_unique M a (M.floor a) x y (cut_empty M a m (M.floor m) x (omega (arith, run.ahead)) run.empty best) b;
        here = omega (arith, run_sum m run.ahead (omega arith), best.feasible.total);
        idle = run_idle;
      }

-- The plan of (m + 1, N (m + 1)) goes through the first of the cheapest l.
module _ (M : Model) (rising : Rising M) (unlimited : Unlimited M) (m : ℕ) (room : Uncapped M (suc m)) (more : M.floor m < M.floor (suc m))
    (plans : ℕ → ℕ → ℕ) (costs : ℕ → ℕ)
    (right : (l : ℕ) → l ≤ m → OptimalTo M l (M.floor l) (plans l))
    (tells : (l : ℕ) → l ≤ m → costs l ≡ cost_to M (plans l) l)
    (l : ℕ) (inside : l ≤ m)
    (cheapest : (j : ℕ) → j ≤ m → price M costs (suc m) l ≤ price M costs (suc m) j)
    (earliest : (j : ℕ) → j < l → price M costs (suc m) l < price M costs (suc m) j)
    (z : ℕ → ℕ) (t : Through M l (suc m) (plans l) z) where
  mine : FeasibleTo M (suc m) (M.floor (suc m)) z
  mine =
      let r = (right l inside).feasible in
      through_feasible M rising unlimited l (suc m) (omega arith) (plans l) z r.total t (room l (omega arith)) r

  -- of two that cost the same and go through l and a later a, the first makes nothing in period a
  sooner : (x : ℕ → ℕ) (a : ℕ) → a ≤ m → l ≤ a → Through M a (suc m) (plans a) x → Smaller (suc m) z x
  sooner x a h le s = ⊎_elim same later (eq-or-lt_of_le le)
    where
      at_high : (k : ℕ) → k < suc m → a ≤ k → l < a → z k ≤ x k
      at_high k b c g = omega (arith, t.idle k (omega arith) b)

      at_low : (k : ℕ) → k < a → l < a → ((j : ℕ) → k < j → j < suc m → z j ≡ x j) → ⊥
      at_low k b g alike =
          omega (arith, alike a b (omega arith), t.idle a g (omega arith), s.here, floor_grows M rising a m h)

      later : l < a → Smaller (suc m) z x
      later g k b alike = elim (dec_lt k a) [ yes c ↦ absurd (at_low k c g alike) | no c ↦ at_high k b (omega arith) g ]

      same : l ≡ a → Smaller (suc m) z x
      same e k b alike = omega (arith, one (dec_lt k l) (dec_lt l k))
        where
          one : Dec (k < l) → Dec (l < k) → z k ≡ x k
          one (yes c) d = t.low k c ∙ ap (λ (v : ℕ). plans v k) e ∙ sym (s.low k (omega arith))
          one (no c) (yes d) = t.idle k d b ∙ sym (s.idle k (omega arith) b)
          one (no c) (no d) =
              let f : k ≡ l = omega arith in
              let g : k ≡ a = omega arith in
              let p = t.here in
              let q = s.here in
              ap z f ∙ p ∙ ap (λ (v : ℕ). M.floor (suc m) - M.floor v) e ∙ sym q ∙ ap x (sym g)

  pub run_step : OptimalTo M (suc m) (M.floor (suc m)) z
  run_step =
      let w = optimal_exists M (suc m) (M.floor (suc m)) z mine in
      let x = w.0 in
      let run = last_run M rising (M.floor (suc m)) x (suc m) (omega arith) w.1.feasible in
      let a = run.0 in
      let h : a ≤ m = omega (arith, run.1.ahead) in
      let s = run_through M rising unlimited (suc m) room x w.1 a run.1 (plans a) (right a h) in
      let c = through_cost M rising unlimited l (suc m) (omega arith) (plans l) z (right l inside).feasible.total t costs (tells l inside) in
      let d = through_cost M rising unlimited a (suc m) (omega arith) (plans a) x (right a h).feasible.total s costs (tells a h) in
      let p : Precedes (λ y. cost_to M y (suc m)) (suc m) z x =
      record {
        cheap = omega (arith, cheapest a h);
        small = λ e. sooner x a h (not_before a (omega arith)) s;
      } in
      record { feasible = mine; first = λ y r. precedes_trans (λ v. cost_to M v (suc m)) (suc m) z x y p (w.1.first y r) }
    where
      not_before : (a : ℕ) → price M costs (suc m) l ≡ price M costs (suc m) a → l ≤ a
      not_before a e = elim (dec_lt a l) [ yes g ↦ absurd (omega (arith, earliest a g)) | no g ↦ omega arith ]
