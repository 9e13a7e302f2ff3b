-- The problem that the loops of the uncapped path run on, and how large its costs can grow: amounts are bounded by the demand of all periods,
-- rates and setup costs by their limits. What each step asks so that no sum overflows.
-- Main definition: `uncapacitated`. Assumes nothing.
use Rattle.std.specs.Prelude.{◌≡◌, List, ℕ, ◌+◌, ◌*◌, ◌≤◌, ◌<◌, length, replicate}
use Rattle.day.specs.Sums.{at}
use Rattle.day.specs.Day.{max_periods, max_capacity, max_setup, max_rate, max_total}
use Rattle.theory.specs.declared.Problem.{Problem as LentProblem}
use Rattle.theory.specs.Problem.{Problem, problem_with}
use Rattle.uncapped_rows.specs.declared.Holding.{Holding}

-- what these loops run on: they read no capacity, so every period has the largest there is, which is above all demand
abbrev pub uncapacitated : (demand setup unit holding : List ℕ) → Problem
uncapacitated demand setup unit holding = problem_with demand (replicate (length demand) max_capacity) setup unit holding

-- and of a lent problem
abbrev pub lent_uncapacitated : LentProblem → Problem
lent_uncapacitated l = uncapacitated l.demand.now l.setup.now l.unit.now l.holding.now

-- the most that a lot costs to make, and to hold through one period
abbrev pub max_making : ℕ
max_making = max_setup + max_rate * max_total

abbrev pub max_holding : ℕ
max_holding = max_rate * max_total

-- no cost up to m is more than a lot's for each period before it
abbrev pub LowCosts : (ℕ → ℕ) → ℕ → Type 0
LowCosts costs m = (l : ℕ) → l ≤ m → costs l ≤ l * max_making

-- a lot that a candidate can have, where coming to l has a cost
pub record LotFits (costs : List ℕ) (l made : ℕ) : Type 0 where
  pub cell : l < length costs
  pub low : at costs l ≤ max_periods * max_making
  pub few : made ≤ max_total

-- there is room for one period more in the sum, in which r is demanded
pub record SumFits (s : Holding) (r : ℕ) : Type 0 where
  pub held : s.held ≤ max_periods * max_holding
  pub left : s.left + r ≤ max_total

-- as many unit costs as rates, all within the limit
pub record Rates (unit holding : List ℕ) : Type 0 where
  pub size : length holding ≡ length unit
  pub units : (k : ℕ) → k < length unit → at unit k ≤ max_rate
  pub rates : (k : ℕ) → k < length unit → at holding k ≤ max_rate
