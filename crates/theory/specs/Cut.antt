-- Plans put together from the first periods of one and the rest of another, and cut.
-- Main statement: `cut`. Assumes nothing.
use Rattle.std.specs.Prelude.{◌≡◌, refl, ℕ, zero, suc, ◌+◌, ◌≤◌, ◌<◌}
use Rattle.std.proofs.Common.{sym, ◌∙◌, ⊎_elim, eq-or-lt_of_le, le_of_suc-le-suc, arith}
use Rattle.std.proofs.Math.Decide.{dec_lt}
use Rattle.day.specs.Sums.{sum_to, sum_ext}
use Rattle.day.specs.Plan.{Precedes}
use Rattle.theory.specs.Model.{Model, Rising, cost_at, cost_to, FeasibleTo, OptimalTo}
use Rattle.theory.specs.Basics.{pick, pick_yes, pick_no, from_zero}
use Rattle.theory.specs.Order.{smaller_ext}

-- z is y in the first l periods, and x in those from l to m
pub record Spliced (l m : ℕ) (y x z : ℕ → ℕ) : Type 0 where
  pub low : (k : ℕ) → k < l → z k ≡ y k
  pub high : (k : ℕ) → l ≤ k → k < m → z k ≡ x k

pub join : ℕ → (ℕ → ℕ) → (ℕ → ℕ) → ℕ → ℕ
join l y x k = pick (dec_lt k l) (y k) (x k)

pub joined : (l m : ℕ) (y x : ℕ → ℕ) → Spliced l m y x (join l y x)
unfolding join
joined l m y x = record { low = λ k h. pick_yes (dec_lt k l) (y k) (x k) h; high = λ k h _. pick_no (dec_lt k l) (y k) (x k) (omega arith) }

-- sums of what is put together
pub sum_spliced : (l m : ℕ) (y x z : ℕ → ℕ) → Spliced l m y x z → l ≤ m → sum_to z m + sum_to x l ≡ sum_to x m + sum_to y l
sum_spliced l zero y x z s h = let e : l ≡ 0 = omega arith in rw e (omega arith)
sum_spliced l (suc m) y x z s h = go (dec_lt m l) (λ g. sum_spliced l m y x z (record { low = s.low; high = λ k a b. s.high k a (omega arith) }) g)
  where
    go : Dec (m < l) → (l ≤ m → sum_to z m + sum_to x l ≡ sum_to x m + sum_to y l) → sum_to z (suc m) + sum_to x l ≡ sum_to x (suc m) + sum_to y l
    go (yes g) r = let e : l ≡ suc m = omega arith in rw e (omega (arith, sum_ext z y (suc m) (λ k b. s.low k (omega arith))))
    go (no g) r = omega (arith, r (omega arith), s.high m (omega arith) (omega arith))

module _ (M : Model) where
  -- rules and cost of the first i periods look at the first i amounts alone
  pub cost_ext : (x y : ℕ → ℕ) (i : ℕ) → ((k : ℕ) → k < i → x k ≡ y k) → cost_to M x i ≡ cost_to M y i
  cost_ext x y i e =
      sum_ext (cost_at M x) (cost_at M y) i
      (λ k l. let s = sum_ext x y (suc k) (λ j b. e j (omega arith)) in let q = e k l in rw (s, q) refl)

  pub feasible_ext : (i X : ℕ) (x y : ℕ → ℕ) → ((k : ℕ) → k < i → x k ≡ y k) → FeasibleTo M i X x → FeasibleTo M i X y
  feasible_ext i X x y e r =
      record {
        total = omega (arith, r.total, sum_ext x y i e);
        within = λ k l. omega (arith, r.within k l, e k l);
        served = λ k l. omega (arith, r.served k l, sum_ext x y (suc k) (λ j b. e j (omega arith)));
        under = λ k l. omega (arith, r.under k l, sum_ext x y (suc k) (λ j b. e j (omega arith)));
      }

  pub precedes_ext : (i : ℕ) (x y x' y' : ℕ → ℕ)
      → ((k : ℕ) → k < i → x k ≡ x' k)
      → ((k : ℕ) → k < i → y k ≡ y' k)
      → Precedes (λ z. cost_to M z i) i x y
      → Precedes (λ z. cost_to M z i) i x' y'
  precedes_ext i x y x' y' e f p =
      let a = cost_ext x x' i e in
      let b = cost_ext y y' i f in
      record { cheap = omega (arith, p.cheap); small = λ q. smaller_ext i x y x' y' e f (p.small (omega arith)) }

  pub optimal_ext : (i X : ℕ) (x y : ℕ → ℕ) → ((k : ℕ) → k < i → x k ≡ y k) → OptimalTo M i X x → OptimalTo M i X y
  optimal_ext i X x y e b =
      record {
        feasible = feasible_ext i X x y e b.feasible;
        first = λ z r. precedes_ext i x z y z e (λ _ _. refl) (b.first z r);
      }

  -- the first l of the first m
  pub feasible_less : (l m X : ℕ) (x : ℕ → ℕ) → l ≤ m → FeasibleTo M m X x → FeasibleTo M l (sum_to x l) x
  feasible_less l m X x h r =
      record {
        total = refl;
        within = λ k a. r.within k (omega arith);
        served = λ k a. r.served k (omega arith);
        under = λ k a. r.under k (omega arith);
      }

  -- the floor up to i, 0 among them
  pub floor_below : Rising M → (i X : ℕ) (x : ℕ → ℕ) → FeasibleTo M i X x → (j : ℕ) → j ≤ i → M.floor j ≤ sum_to x j
  floor_below rising i X x r = from_zero (λ (j : ℕ). M.floor j ≤ sum_to x j) i (omega (arith, rising.nought)) r.served

  pub floor_grows : Rising M → (l m : ℕ) → l ≤ m → M.floor l ≤ M.floor m
  floor_grows rising l zero h = let e : l ≡ 0 = omega arith in rw e (omega arith)
  floor_grows rising l (suc m) h =
      ⊎_elim
      (λ (e : l ≡ suc m). rw e (omega arith))
      (λ g. omega (arith, floor_grows rising l m (le_of_suc-le-suc g), rising.rises m))
      (eq-or-lt_of_le h)

  module _ (l m X : ℕ) (y x z : ℕ → ℕ) (le : l ≤ m) (s : Spliced l m y x z) (alike : sum_to y l ≡ sum_to x l) where
    total_low : (j : ℕ) → j ≤ l → sum_to z j ≡ sum_to y j
    total_low j h = sum_ext z y j (λ k a. s.low k (omega arith))

    total_high : (j : ℕ) → l ≤ j → j ≤ m → sum_to z j ≡ sum_to x j
    total_high j a b = omega (arith, alike, sum_spliced l j y x z (record { low = s.low; high = λ k c d. s.high k c (omega arith) }) a)

    splice_cost : cost_to M z m + cost_to M x l ≡ cost_to M x m + cost_to M y l
    splice_cost =
        sum_spliced l m (cost_at M y) (cost_at M x) (cost_at M z)
        (record {
          low = λ k h. let e = total_low (suc k) h in let f = s.low k h in rw (e, f) refl;
          high = λ k a b. let e = total_high (suc k) (omega arith) b in let f = s.high k a b in rw (e, f) refl;
        })
        le

    splice_feasible : FeasibleTo M l (sum_to x l) y → FeasibleTo M m X x → FeasibleTo M m X z
    splice_feasible r q =
        record {
          total = total_high m le (omega arith) ∙ q.total;
          within = λ k b. at_within k b (dec_lt k l);
          served = λ k b. at_served k b (dec_lt k l);
          under = λ k b. at_under k b (dec_lt k l);
        }
      where
        at_within : (k : ℕ) → k < m → Dec (k < l) → z k ≤ M.capacity k
        at_within k b (yes h) = omega (arith, s.low k h, r.within k h)
        at_within k b (no h) = omega (arith, s.high k (omega arith) b, q.within k b)

        at_served : (k : ℕ) → k < m → Dec (k < l) → M.floor (suc k) ≤ sum_to z (suc k)
        at_served k b (yes h) = omega (arith, total_low (suc k) h, r.served k h)
        at_served k b (no h) = omega (arith, total_high (suc k) (omega arith) b, q.served k b)

        at_under : (k : ℕ) → k < m → Dec (k < l) → sum_to z (suc k) ≤ M.ceiling (suc k)
        at_under k b (yes h) = omega (arith, total_low (suc k) h, r.under k h)
        at_under k b (no h) = omega (arith, total_high (suc k) (omega arith) b, q.under k b)

  -- The cut: the first l amounts of the plan of (m, X) are the plan of (l, X_l).
  pub cut : (l m X : ℕ) (x : ℕ → ℕ) → l ≤ m → OptimalTo M m X x → OptimalTo M l (sum_to x l) x
  cut l m X x le b = record { feasible = feasible_less l m X x le b.feasible; first = ahead }
    where
      ahead : (y : ℕ → ℕ) → FeasibleTo M l (sum_to x l) y → Precedes (λ z. cost_to M z l) l x y
      ahead y r =
          let s = joined l m y x in
          let z = join l y x in
          let c = splice_cost l m X y x z le s r.total in
          let p = b.first z (splice_feasible l m X y x z le s r.total r b.feasible) in
          let alike : (k : ℕ) → ((j : ℕ) → k < j → j < l → x j ≡ y j) → (j : ℕ) → k < j → j < m → Dec (j < l) → x j ≡ z j =
          (λ k same j a g d. elim d [ yes h ↦ same j a h ∙ sym (s.low j h) | no h ↦ sym (s.high j (omega arith) g) ]) in
          record {
            cheap = omega (arith, p.cheap);
            small = λ e k h same. omega (arith, s.low k h, p.small (omega arith) k (omega arith) (λ j a g. alike k same j a g (dec_lt j l)));
          }

  pub cut_empty : (l m X : ℕ) (x : ℕ → ℕ) → l ≤ m → sum_to x l ≡ M.floor l → OptimalTo M m X x → OptimalTo M l (M.floor l) x
  cut_empty l m X x le e b = rw e at (cut l m X x le b)
