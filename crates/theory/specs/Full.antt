-- The full path: costs and last amounts for each total that can be reached, and the plan read back from them.
-- Main definitions: `Stage`, `row_amount`, `row_cost`, `full_path`. Main statement: `full_path_right`. Assumes nothing.
use Rattle.std.specs.Prelude.{◌≡◌, refl, List, [], ◌∷◌, ◌++◌, ℕ, zero, suc, ◌+◌, ◌-◌, ◌*◌, ◌≤◌, ◌<◌, min, length}
use Rattle.std.proofs.Common.{sym, ap, ◌∙◌, arith, length-append}
use Rattle.std.proofs.Math.ListN.{get_or-append}
use Rattle.std.proofs.lemmas.List.{get_or_at}
use Rattle.day.specs.Sums.{at, sum_to}
use Rattle.day.specs.Plan.{making}
use Rattle.theory.specs.Model.{Model, Rising, production, cost_to, OptimalTo}
use Rattle.theory.specs.Cheapest.{cheapest, cheapest_right}
use Rattle.theory.specs.Stages.{Solution}
use Rattle.theory.specs.Recursion.{PlanOf, leads_optimal, plan_none}
use Rattle.theory.specs.Cut.{Spliced, cost_ext}
use Rattle.theory.specs.Reachable.{high, Covered, Range, range_some, range_bounds, bounds_range, row_step}

pub snoc_spliced : (k v : ℕ) (p : List ℕ) → length p ≡ k → Spliced k (suc k) (at p) (λ _. v) (at (p ++ (v ∷ [])))
snoc_spliced k v p e =
    record {
      low = λ j h. get_or-append p (v ∷ []) 0 j (omega arith);
      high = λ j a b. let q : j ≡ k = omega arith in rw q (get_or_at p v [] 0 k e);
    }

-- one period more
abbrev pub add : Model → ℕ → ℕ → ℕ → Solution → Solution
add M k X v f = record { cost = f.cost + production M k v + M.holding k * (X - M.floor (suc k)); plan = f.plan ++ (v ∷ []) }

-- The row step: of the amounts that leave a total that can be reached, the smallest of the cheapest.
pub full_step : (M : Model) → Rising M → (k X : ℕ) (rows : ℕ → Solution)
    → ((Y : ℕ) → M.floor k ≤ Y → Y ≤ high M k → PlanOf M k Y (rows Y))
    → M.floor (suc k) ≤ X → X ≤ M.ceiling (suc k)
    → (v : ℕ) → Range M k X v
    → ((w : ℕ) → Range M k X w → (rows (X - v)).cost + production M k v ≤ (rows (X - w)).cost + production M k w)
    → ((w : ℕ) → Range M k X w → w < v → (rows (X - v)).cost + production M k v < (rows (X - w)).cost + production M k w)
    → PlanOf M (suc k) X (add M k X v (rows (X - v)))
full_step M rising k X rows right served under v range cheapest smallest =
    record {
      each = length-append old.plan (v ∷ []) ∙ omega (arith, (here v range).each);
      fits = best.feasible;
      tells = paid;
      first = best.first;
    }
  where
    old : Solution
    old = rows (X - v)

    here : (w : ℕ) → Range M k X w → PlanOf M k (X - w) (rows (X - w))
    here w r = right (X - w) (omega (arith, r.rest)) (omega (arith, r.enough))

    s : Spliced k (suc k) (at old.plan) (λ _. v) (at (old.plan ++ (v ∷ [])))
    s = snoc_spliced k v old.plan (here v range).each

    best : OptimalTo M (suc k) X (at (old.plan ++ (v ∷ [])))
    best =
        row_step M rising k X (λ Y. at (rows Y).plan) (λ Y a b. leads_optimal M k Y (rows Y) (right Y a b)) served under v range
        (λ w r. omega (arith, cheapest w r, (here v range).tells, (here w r).tells))
        (λ w r l. omega (arith, smallest w r l, (here v range).tells, (here w r).tells))
        (at (old.plan ++ (v ∷ []))) s

    paid : old.cost + production M k v + M.holding k * (X - M.floor (suc k)) ≡ cost_to M (at (old.plan ++ (v ∷ []))) (suc k)
    paid =
        let t : X ≡ sum_to (at (old.plan ++ (v ∷ []))) (suc k) = sym best.feasible.total in
        let h = ap (λ (t : ℕ). M.holding k * (t - M.floor (suc k))) t in
        let made = ap (production M k) (s.high k (omega arith) (omega arith)) in
        omega (arith, h, (here v range).tells, cost_ext M (at (old.plan ++ (v ∷ []))) (at old.plan) k s.low)

-- the plan that the last amounts `ch` say, read from its end
abbrev pub back : (ℕ → ℕ → ℕ) → ℕ → ℕ → List ℕ
back ch zero X = []
back ch (suc k) X = back ch k (X - ch k X) ++ (ch k X ∷ [])

-- the cost D (k + 1) X and the last amount ch k X are right, given the costs D k
pub record Cell (M : Model) (D ch : ℕ → ℕ → ℕ) (k X : ℕ) : Type 0 where
  pub range : Range M k X (ch k X)
  pub cheapest : (w : ℕ) → Range M k X w → D k (X - ch k X) + production M k (ch k X) ≤ D k (X - w) + production M k w
  pub smallest : (w : ℕ) → Range M k X w → w < ch k X → D k (X - ch k X) + production M k (ch k X) < D k (X - w) + production M k w
  pub tells : D (suc k) X ≡ D k (X - ch k X) + production M k (ch k X) + M.holding k * (X - M.floor (suc k))

-- Where all cells are right, the plan read back is the optimal plan.
pub full_right : (M : Model) → Rising M → (D ch : ℕ → ℕ → ℕ) → D 0 0 ≡ 0 → (i : ℕ)
    → ((k : ℕ) → k < i → (X : ℕ) → M.floor (suc k) ≤ X → X ≤ high M (suc k) → Cell M D ch k X)
    → (X : ℕ) → M.floor i ≤ X → X ≤ high M i → PlanOf M i X (record { cost = D i X; plan = back ch i X })
full_right M rising D ch z zero cells X a b =
    let e : X ≡ 0 = omega arith in
    plan_none M X (D 0 X) e (ap (D 0) e ∙ z)
full_right M rising D ch z (suc k) cells X a b =
    let c = cells k (omega arith) X a b in
    let t = c.tells in
    rw t
    (full_step M rising k X (λ Y. record { cost = D k Y; plan = back ch k Y })
    (full_right M rising D ch z k (λ j h. cells j (omega arith))) a (omega arith) (ch k X) c.range c.cheapest c.smallest)

-- what the row step of one period needs to know: c, b, p, H, the totals that can be reached before it, and N after it
pub record Stage : Type 0 where
  pub capacity : ℕ
  pub setup : ℕ
  pub unit : ℕ
  pub holding : ℕ
  pub low : ℕ
  pub high : ℕ
  pub floor : ℕ

abbrev pub stage_of : Model → ℕ → Stage
stage_of M k = record {
  capacity = M.capacity k;
  setup = M.setup k;
  unit = M.unit k;
  holding = M.holding k;
  low = M.floor k;
  high = high M k;
  floor = M.floor (suc k);
}

-- the amounts to try for the total X go from `lowest` to `highest`
abbrev pub lowest : Stage → ℕ → ℕ
lowest S X = X - S.high

abbrev pub highest : Stage → ℕ → ℕ
highest S X = min S.capacity (X - S.low)

-- what the total X costs after the amount v, where to come to a total before it costs what the row says
abbrev pub row_price : Stage → (ℕ → ℕ) → ℕ → ℕ → ℕ
row_price S row X v = row (X - v) + making S.setup S.unit v

-- the smallest of the cheapest amounts
abbrev pub row_amount : Stage → (ℕ → ℕ) → ℕ → ℕ
row_amount S row X = lowest S X + cheapest (λ j. row_price S row X (lowest S X + j)) (highest S X - lowest S X)

-- D_i(X) from D_(i-1): recursion (5), over the totals that can be reached
abbrev pub row_cost : Stage → (ℕ → ℕ) → ℕ → ℕ
row_cost S row X = row_price S row X (row_amount S row X) + S.holding * (X - S.floor)

-- D_i, for the totals that can be reached after i periods
unfoldable pub cost_row : Model → ℕ → ℕ → ℕ
cost_row M zero X = 0
cost_row M (suc k) X = row_cost (stage_of M k) (cost_row M k) X

pub cost_row-zero : (M : Model) (X : ℕ) → cost_row M 0 X ≡ 0
unfolding cost_row
cost_row-zero M X = refl

pub cost_row_next : (M : Model) (k X : ℕ) → cost_row M (suc k) X ≡ row_cost (stage_of M k) (cost_row M k) X
unfolding cost_row
cost_row_next M k X = refl

-- the amount of period k that ends the plan of (k + 1, X)
abbrev pub amount : Model → ℕ → ℕ → ℕ
amount M k X = row_amount (stage_of M k) (cost_row M k) X

-- what the full path computes
abbrev pub full_path : Model → ℕ → ℕ → Solution
full_path M i X = record { cost = cost_row M i X; plan = back (amount M) i X }

module _ (M : Model) (rising : Rising M) where
  amount_cell : (k X : ℕ) → M.floor k ≤ high M k → M.floor (suc k) ≤ X → X ≤ high M (suc k) → Cell M (cost_row M) (amount M) k X
  amount_cell k X ok a b =
      let S : Stage = stage_of M k in
      let lo : ℕ = lowest S X in
      let f : ℕ → ℕ = λ j. row_price S (cost_row M k) X (lo + j) in
      let c = cheapest_right f (highest S X - lo) in
      let some = range_some M rising k X ok a b in
      let le = bounds_range M rising k X lo some in
      let at_offset : (w : ℕ) → lo ≤ w → f (w - lo) ≡ cost_row M k (X - w) + production M k w =
      (λ w h. let e : lo + (w - lo) ≡ w = omega arith in ap (row_price S (cost_row M k) X) e) in
      record {
        range = range_bounds M rising k X (amount M k X) (omega (arith, rising.rises k)) (omega arith) (omega (arith, c.inside, le.1));
        cheapest = λ w r.
            let q = bounds_range M rising k X w r in
            omega (arith, c.least (w - lo) (omega (arith, q.0, q.1)), at_offset w q.0);
        smallest = λ w r h.
            let q = bounds_range M rising k X w r in
            omega (arith, c.first (w - lo) (omega (arith, q.0)), at_offset w q.0);
        tells = cost_row_next M k X;
      }

  -- The full path gives the plan of (i, X).
  pub full_path_right : (i : ℕ) → Covered M i → (X : ℕ) → M.floor i ≤ X → X ≤ high M i → PlanOf M i X (full_path M i X)
  full_path_right i ok =
      full_right M rising (cost_row M) (amount M) (cost_row-zero M 0) i
      (λ k l X a b. amount_cell k X (ok k (omega arith)) a b)
