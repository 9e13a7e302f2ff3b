-- The totals that can be reached form an interval, and the row step of recursion (5) runs over it alone, with no mark for "unreachable".
-- Main statements: `interval`, `row_step`. Assumes nothing.
use Rattle.std.specs.Prelude.{◌≡◌, refl, [], ℕ, zero, suc, ◌+◌, ◌-◌, ◌*◌, ◌≤◌, ◌<◌, min}
use Rattle.std.proofs.Common.{sym, ap, ◌∙◌, arith}
use Rattle.std.proofs.Math.Decide.{dec_lt}
use Rattle.day.specs.Sums.{at, sum_to, below, sum_ext}
use Rattle.day.specs.Plan.{Smaller, Precedes}
use Rattle.theory.specs.Model.{Model, Rising, production, cost_to, FeasibleTo, OptimalTo}
use Rattle.theory.specs.Order.{smaller_last, smaller_before, smaller_ext}
use Rattle.theory.specs.Recursion.{plan_none}
use Rattle.theory.specs.Cut.{Spliced, join, joined, cost_ext, feasible_less, floor_below}

-- the highest total that can be reached, while the floor can be
abbrev pub high : Model → ℕ → ℕ
high M zero = 0
high M (suc k) = min (high M k + M.capacity k) (M.ceiling (suc k))

abbrev pub Covered : Model → ℕ → Type 0
Covered M i = (j : ℕ) → j ≤ i → M.floor j ≤ high M j

-- under a constant ceiling it is the smaller of that and all that could be made
pub high_open : (M : Model) (T : ℕ) → ((j : ℕ) → M.ceiling j ≡ T) → (i : ℕ) → high M i ≡ min (sum_to M.capacity i) T
high_open M T e zero = omega arith
high_open M T e (suc i) = omega (arith, high_open M T e i, e (suc i))

-- the amounts to try in period k for the total X: each leaves a total that can be reached before
pub record Range (M : Model) (k X v : ℕ) : Type 0 where
  pub enough : X ≤ v + high M k
  pub room : v ≤ M.capacity k
  pub rest : v + M.floor k ≤ X

module _ (M : Model) (rising : Rising M) where
  feasible_high : (i X : ℕ) (x : ℕ → ℕ) → FeasibleTo M i X x → (j : ℕ) → j ≤ i → sum_to x j ≤ high M j
  feasible_high i X x r zero h = omega arith
  feasible_high i X x r (suc j) h = omega (arith, feasible_high i X x r j (omega arith), r.within j h, r.under j h)

  -- one period more
  pub feasible_more : (k Y v : ℕ) (y z : ℕ → ℕ) → Spliced k (suc k) y (λ _. v) z
      → FeasibleTo M k Y y → v ≤ M.capacity k → M.floor (suc k) ≤ Y + v → Y + v ≤ M.ceiling (suc k)
      → FeasibleTo M (suc k) (Y + v) z
  feasible_more k Y v y z s r room served under =
      let here = s.high k (omega arith) (omega arith) in
      let sums : (j : ℕ) → j ≤ k → sum_to z j ≡ sum_to y j = (λ j h. sum_ext z y j (λ i a. s.low i (omega arith))) in
      let all : sum_to z (suc k) ≡ Y + v = omega (arith, sums k (omega arith), r.total) in
      record {
        total = all;
        within = below (λ (j : ℕ). z j ≤ M.capacity j) k (λ j h. omega (arith, s.low j h, r.within j h)) (omega arith);
        served = below (λ (j : ℕ). M.floor (suc j) ≤ sum_to z (suc j)) k (λ j h. omega (arith, sums (suc j) h, r.served j h)) (omega arith);
        under = below (λ (j : ℕ). sum_to z (suc j) ≤ M.ceiling (suc j)) k (λ j h. omega (arith, sums (suc j) h, r.under j h)) (omega arith);
      }

  -- Every total from the floor to the highest is reached.
  pub interval : (i : ℕ) → Covered M i → (X : ℕ) → M.floor i ≤ X → X ≤ high M i → (x : ℕ → ℕ) × FeasibleTo M i X x
  interval zero e X a b = (at [], (plan_none M X 0 (omega arith) refl).fits)
  interval (suc k) e X a b =
      let Y : ℕ = min X (high M k) in
      let r = interval k (λ j h. e j (omega arith)) Y (omega (arith, rising.rises k, e k (omega arith))) (omega arith) in
      let q = feasible_more k Y (X - Y) r.0 (join k r.0 (λ _. X - Y)) (joined k (suc k) r.0 (λ _. X - Y)) r.1
      (omega arith) (omega arith) (omega arith) in
      let t : Y + (X - Y) ≡ X = omega arith in
      (join k r.0 (λ _. X - Y), rw t at q)

  -- there is an amount to try, and the amounts to try are those between two bounds
  pub range_some : (k X : ℕ) → M.floor k ≤ high M k → M.floor (suc k) ≤ X → X ≤ high M (suc k) → Range M k X (X - high M k)
  range_some k X e a b = record { enough = omega arith; room = omega arith; rest = omega (arith, rising.rises k) }

  pub range_bounds : (k X v : ℕ) → M.floor k ≤ X → X - high M k ≤ v → v ≤ min (M.capacity k) (X - M.floor k) → Range M k X v
  range_bounds k X v a b c = record { enough = omega arith; room = omega arith; rest = omega arith }

  pub bounds_range : (k X v : ℕ) → Range M k X v → (X - high M k ≤ v) × (v ≤ min (M.capacity k) (X - M.floor k))
  bounds_range k X v r = (omega (arith, r.enough), omega (arith, r.room, r.rest))

  -- The row step: the plans of k periods are known for each total that can be reached, and X is to be reached after one more.
  module _ (k X : ℕ) (plans : ℕ → ℕ → ℕ)
      (right : (Y : ℕ) → M.floor k ≤ Y → Y ≤ high M k → OptimalTo M k Y (plans Y)) where
    abbrev pub price : ℕ → ℕ
    price v = cost_to M (plans (X - v)) k + production M k v

    in_range : (y : ℕ → ℕ) → FeasibleTo M (suc k) X y → Range M k X (y k)
    in_range y r =
        let t = r.total in
        record {
          enough = omega (arith, feasible_high (suc k) X y r k (omega arith));
          room = r.within k (omega arith);
          rest = omega (arith, floor_below M rising (suc k) X y r k (omega arith));
        }

    -- The smallest of the cheapest amounts ends the plan of (k + 1, X).
    pub row_step : M.floor (suc k) ≤ X → X ≤ M.ceiling (suc k)
        → (v : ℕ) → Range M k X v
        → ((w : ℕ) → Range M k X w → price v ≤ price w)
        → ((w : ℕ) → Range M k X w → w < v → price v < price w)
        → (z : ℕ → ℕ) → Spliced k (suc k) (plans (X - v)) (λ _. v) z
        → OptimalTo M (suc k) X z
    row_step served under v range cheapest smallest z s =
        let e : X - v + v ≡ X = omega (arith, range.rest) in
        let b = right (X - v) (omega (arith, range.rest)) (omega (arith, range.enough)) in
        let r = feasible_more k (X - v) v (plans (X - v)) z s b.feasible range.room (omega arith) (omega arith) in
        record { feasible = rw e at r; first = λ y q. ahead (rw e at r) b y q }
      where
        paid : (y : ℕ → ℕ) → FeasibleTo M (suc k) X y
            → cost_to M y (suc k) ≡ cost_to M y k + production M k (y k) + M.holding k * (X - M.floor (suc k))
        paid y q = rw q.total (omega arith)

        mine : cost_to M z k + production M k (z k) ≡ price v
        mine = let c = cost_ext M z (plans (X - v)) k s.low in let m = ap (production M k) (s.high k (omega arith) (omega arith)) in omega arith

        before : (y : ℕ → ℕ) → FeasibleTo M (suc k) X y → FeasibleTo M k (X - y k) y
        before y q = let e : sum_to y k ≡ X - y k = omega (arith, q.total) in rw e at (feasible_less M k (suc k) X y (omega arith) q)

        least : (y : ℕ → ℕ) → FeasibleTo M (suc k) X y → price (y k) ≤ cost_to M y k + production M k (y k)
        least y q =
            let w = in_range y q in
            omega (arith, ((right (X - y k) (omega (arith, w.rest)) (omega (arith, w.enough))).first y (before y q)).cheap)

        order : OptimalTo M k (X - v) (plans (X - v)) → (y : ℕ → ℕ) → FeasibleTo M (suc k) X y
            → cost_to M z k + production M k (z k) ≡ cost_to M y k + production M k (y k)
            → Dec (y k < v) → Dec (v < y k) → Smaller (suc k) z y
        order b y q same (yes l) d = absurd (omega (arith, smallest (y k) (in_range y q) l, mine, least y q))
        order b y q same (no l) (yes g) = smaller_last k z y (omega (arith, s.high k (omega arith) (omega arith)))
        order b y q same (no l) (no g) =
            let e : y k ≡ v = omega arith in
            let here = s.high k (omega arith) (omega arith) in
            let m = ap (production M k) e in
            let p = b.first y (rw e at (before y q)) in
            smaller_before k z y (here ∙ sym e)
            (smaller_ext k (plans (X - v)) y z y (λ j h. sym (s.low j h)) (λ j h. refl) (p.small (omega (arith, mine))))

        ahead : FeasibleTo M (suc k) X z → OptimalTo M k (X - v) (plans (X - v))
            → (y : ℕ → ℕ) → FeasibleTo M (suc k) X y → Precedes (λ x. cost_to M x (suc k)) (suc k) z y
        ahead r b y q =
            let c = paid z r in
            let d = paid y q in
            record {
              cheap = omega (arith, mine, least y q, cheapest (y k) (in_range y q));
              small = λ same. order b y q (omega arith) (dec_lt (y k) v) (dec_lt v (y k));
            }
