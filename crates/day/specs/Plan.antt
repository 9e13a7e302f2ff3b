-- Plans of a day: the conditions that they keep, what they cost, how two of equal cost are told apart, and the plan wanted.
-- After the report, section 2, with charge at both ends, upkeep on a period's mean charge, and store limits.
-- A plan is a function from periods to amounts; only its values in the day's periods count.
-- Main definitions: `KeepsTo`, `Feasible`, `Optimal`. Assumes nothing.
use Rattle.std.specs.Prelude.{◌≡◌, ℕ, zero, suc, ◌+◌, ◌-◌, ◌*◌, ◌≤◌, ◌<◌}
use Rattle.day.specs.Sums.{at, sum_to}
use Rattle.day.specs.Day.{Day, periods, demand_to, required}

-- I_i = A + X_i − R_i, the charge left after i periods; cut off at 0, which condition (2) rules out
abbrev pub inventory : Day → (ℕ → ℕ) → ℕ → ℕ
inventory d x i = d.opening + sum_to x i - demand_to d i

-- the cost of making an amount at setup cost b and unit cost p: nothing for 0, else b + p × x
abbrev pub making : (b p x : ℕ) → ℕ
making b p zero = 0
making b p (suc x) = b + p * suc x

-- p_i(x)
abbrev pub production : Day → ℕ → ℕ → ℕ
production d k x = making (at d.setup k) (at d.unit k) x

-- what one period costs: p_i(x_i), and upkeep at h_i on the charge before it and on the charge left, I_(i−1) + I_i, where I_0 is A
abbrev pub cost_at : Day → (ℕ → ℕ) → ℕ → ℕ
cost_at d x k = production d k (x k) + at d.holding k * (inventory d x k + inventory d x (suc k))

-- sum (1) through the first i periods
abbrev pub cost_to : Day → (ℕ → ℕ) → ℕ → ℕ
cost_to d x i = sum_to (cost_at d x) i

-- sum (1)
abbrev pub cost : Day → (ℕ → ℕ) → ℕ
cost d x = cost_to d x (periods d)

-- the amounts x of the first i periods keep the conditions: (2) to (4) of the report, of a day with ends, and the store limit
pub record KeepsTo (d : Day) (i : ℕ) (x : ℕ → ℕ) : Type 0 where
  -- (2): demand is met on time, R ≤ A + X after every period
  pub served : (k : ℕ) → k < i → demand_to d (suc k) ≤ d.opening + sum_to x (suc k)
  -- (3), where i is n: Z is left at the end, A + X_n = R_n + Z
  pub ends : i ≡ periods d → d.opening + sum_to x i ≡ required d
  -- (4): no amount is above its period's capacity
  pub within : (k : ℕ) → k < i → x k ≤ at d.capacity k
  -- the charge left after a period is not above its store limit; that before period 1 has none
  pub stored : (k : ℕ) → k < i → inventory d x (suc k) ≤ at d.store k

-- a plan keeps them through all periods of the day
abbrev pub Feasible : Day → (ℕ → ℕ) → Type 0
Feasible d x = KeepsTo d (periods d) x

-- 1 where something is made
abbrev pub setup_at : ℕ → ℕ
setup_at zero = 0
setup_at (suc x) = 1

-- in how many of the first n periods something is made (operators say: starts)
abbrev pub setups : ℕ → (ℕ → ℕ) → ℕ
setups n x = sum_to (λ k. setup_at (x k)) n

-- Of two plans of n periods, x has the smaller amount in the last period in which they differ, if they differ:
-- in a period after which the two are alike, x makes no more than y.
abbrev pub Smaller : ℕ → (ℕ → ℕ) → (ℕ → ℕ) → Type 0
Smaller n x y = (k : ℕ) → k < n → ((j : ℕ) → k < j → j < n → x j ≡ y j) → x k ≤ y k

-- x is cheaper than y; or costs as much, and is the smaller
pub record Precedes (costs : (ℕ → ℕ) → ℕ) (n : ℕ) (x y : ℕ → ℕ) : Type 0 where
  pub cheap : costs x ≤ costs y
  pub small : costs x ≡ costs y → Smaller n x y

-- the plan of the day: it keeps the conditions, and precedes every plan that does
pub record Optimal (d : Day) (x : ℕ → ℕ) : Type 0 where
  pub feasible : Feasible d x
  pub first : (y : ℕ → ℕ) → Feasible d y → Precedes (cost d) (periods d) x y
