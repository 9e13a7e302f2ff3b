-- The one model from which all days follow: what amounts keep its rules, what they cost, which are wanted.
-- Index k is the report's period k + 1; floor and ceiling are indexed by how many periods are past.
-- Main definitions: `Model`, `FeasibleTo`, `OptimalTo`. Assumes nothing.
use Rattle.std.specs.Prelude.{◌≡◌, ℕ, suc, ◌+◌, ◌-◌, ◌*◌, ◌≤◌, ◌<◌}
use Rattle.day.specs.Sums.{sum_to}
use Rattle.day.specs.Plan.{making, Precedes}

-- N, the least total that must have been made by then; U, the most that may; c, b, p; H, what a unit above N costs to hold
pub record Model : Type 0 where
  pub floor : ℕ → ℕ
  pub ceiling : ℕ → ℕ
  pub capacity : ℕ → ℕ
  pub setup : ℕ → ℕ
  pub unit : ℕ → ℕ
  pub holding : ℕ → ℕ

-- what is asked of every model: N begins at 0 and never falls
pub record Rising (M : Model) : Type 0 where
  pub nought : M.floor 0 ≡ 0
  pub rises : (k : ℕ) → M.floor k ≤ M.floor (suc k)

-- no ceiling ever binds: that of a model without a store limit is its whole demand, and no plan makes more
abbrev pub Unlimited : Model → Type 0
Unlimited M = (i j : ℕ) → M.floor i ≤ M.ceiling j

-- the cost of making an amount in period k
abbrev pub production : Model → ℕ → ℕ → ℕ
production M k x = making (M.setup k) (M.unit k) x

-- the cost of period k: to make x k, and to hold what then stands above the floor
abbrev pub cost_at : Model → (ℕ → ℕ) → ℕ → ℕ
cost_at M x k = production M k (x k) + M.holding k * (sum_to x (suc k) - M.floor (suc k))

abbrev pub cost_to : Model → (ℕ → ℕ) → ℕ → ℕ
cost_to M x i = sum_to (cost_at M x) i

-- the amounts x of the first i periods keep the rules and make X in all
pub record FeasibleTo (M : Model) (i X : ℕ) (x : ℕ → ℕ) : Type 0 where
  pub total : sum_to x i ≡ X
  pub within : (k : ℕ) → k < i → x k ≤ M.capacity k
  pub served : (k : ℕ) → k < i → M.floor (suc k) ≤ sum_to x (suc k)
  pub under : (k : ℕ) → k < i → sum_to x (suc k) ≤ M.ceiling (suc k)

-- the plan of (i, X)
pub record OptimalTo (M : Model) (i X : ℕ) (x : ℕ → ℕ) : Type 0 where
  pub feasible : FeasibleTo M i X x
  pub first : (y : ℕ → ℕ) → FeasibleTo M i X y → Precedes (λ z. cost_to M z i) i x y
