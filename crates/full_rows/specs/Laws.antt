-- Recursion (5) for one total that can be reached: it looks at the totals that can be reached before it alone, and adds little.
-- Main statements: `amount_between`, `amount_ext`, `cost_ext`, `cost_small`. Assumes nothing.
use Rattle.std.specs.Prelude.{◌≡◌, ℕ, zero, suc, ◌+◌, ◌-◌, ◌*◌, ◌≤◌}
use Rattle.std.proofs.Common.{ap, ◌∙◌, mul-le-mul, arith}
use Rattle.day.specs.Day.{max_setup, max_rate, max_total}
use Rattle.day.specs.Plan.{making}
use Rattle.theory.specs.Cheapest.{cheapest_right, cheapest_ext}
use Rattle.theory.specs.Full.{Stage, lowest, highest, row_price, row_amount, row_cost}
use Rattle.full_rows.specs.Row.{max_product, max_making}

-- what recursion (5) looks at: the totals that can be reached before the stage
abbrev pub Before : Stage → ℕ → Type 0
Before S Y = (S.low ≤ Y) × (Y ≤ S.high)

-- some amount leads to X from one of them
pub record InReach (S : Stage) (X : ℕ) : Type 0 where
  pub some : S.low ≤ S.high
  pub rises : S.low ≤ X
  pub near : X ≤ S.high + S.capacity

-- the limits on a stage and a total
pub record Limited (S : Stage) (X : ℕ) : Type 0 where
  pub setup : S.setup ≤ max_setup
  pub unit : S.unit ≤ max_rate
  pub holding : S.holding ≤ max_rate
  pub total : X ≤ max_total

pub making_small : (b p v : ℕ) → b ≤ max_setup → p ≤ max_rate → v ≤ max_total → making b p v ≤ max_making
making_small b p zero l m h = omega arith
making_small b p (suc v) l m h = omega (arith, mul-le-mul m h)

module _ (S : Stage) (X : ℕ) (r : InReach S X) where
  pub amount_between : (row : ℕ → ℕ) → (lowest S X ≤ row_amount S row X) × (row_amount S row X ≤ highest S X)
  amount_between row =
      let c = cheapest_right (λ j. row_price S row X (lowest S X + j)) (highest S X - lowest S X) in
      (omega arith, omega (arith, c.inside, r.some, r.rises, r.near))

  -- what an amount to try leaves can be reached
  pub before : (v : ℕ) → lowest S X ≤ v → v ≤ highest S X → Before S (X - v)
  before v l h = (omega (arith, r.rises), omega arith)

  pub price_small : (row : ℕ → ℕ) (most : ℕ) → ((Y : ℕ) → Before S Y → row Y ≤ most) → Limited S X
      → row_price S row X (row_amount S row X) ≤ most + max_making
  price_small row most cheap l =
      let b = amount_between row in
      let v : ℕ = row_amount S row X in
      omega (arith, cheap (X - v) (before v b.0 b.1), making_small S.setup S.unit v l.setup l.unit (omega (arith, b.1, l.total)))

  pub cost_small : (row : ℕ → ℕ) (most : ℕ) → ((Y : ℕ) → Before S Y → row Y ≤ most) → Limited S X
      → row_cost S row X ≤ most + (max_making + max_product)
  cost_small row most cheap l =
      let units : X - S.floor ≤ max_total = omega (arith, l.total) in
      omega (arith, price_small row most cheap l, mul-le-mul l.holding units)

  module _ (row row' : ℕ → ℕ) (e : (Y : ℕ) → Before S Y → row Y ≡ row' Y) where
    price_ext : (v : ℕ) → lowest S X ≤ v → v ≤ highest S X → row_price S row X v ≡ row_price S row' X v
    price_ext v l h = ap (λ (c : ℕ). c + making S.setup S.unit v) (e (X - v) (before v l h))

    pub amount_ext : row_amount S row X ≡ row_amount S row' X
    amount_ext =
        ap (λ (j : ℕ). lowest S X + j)
        (cheapest_ext (λ j. row_price S row X (lowest S X + j)) (λ j. row_price S row' X (lowest S X + j)) (highest S X - lowest S X)
        (λ j h. price_ext (lowest S X + j) (omega arith) (omega (arith, r.some, r.rises, r.near))))

    pub cost_ext : row_cost S row X ≡ row_cost S row' X
    cost_ext =
        let b = amount_between row in
        ap (λ (c : ℕ). c + S.holding * (X - S.floor))
        (price_ext (row_amount S row X) b.0 b.1 ∙ ap (row_price S row' X) amount_ext)
