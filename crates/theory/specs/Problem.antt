-- What the loops of the paths run on: five tables, one entry a period. Only a path's entry knows the day that they were made from.
-- Main definitions: `Problem`, `model_of`, `model_within`, `Bounded`, `Supplied`. Assumes nothing.
use Rattle.std.specs.Prelude.{◌≡◌, refl, List, ℕ, zero, suc, ◌≤◌, ◌<◌, min, length}
use Rattle.std.proofs.Math.Decide.{dec_lt}
use Rattle.std.proofs.Common.{arith}
use Rattle.std.proofs.Math.ListN.{get_or-eq_default}
use Rattle.day.specs.Sums.{at, sum_to, sum_grows}
use Rattle.day.specs.Day.{max_periods, max_demand, max_capacity, max_setup, max_rate, max_total}
use Rattle.theory.specs.declared.Problem.{Problem as LentProblem}
use Rattle.theory.specs.Model.{Model, Rising, Unlimited}
use Rattle.theory.specs.Reachable.{high, high_open, Covered}

-- net needs, c, b, p, and rates: H, what a unit above N costs to hold
pub record Problem : Type 0 where
  pub demand : List ℕ
  pub capacity : List ℕ
  pub setup : List ℕ
  pub unit : List ℕ
  pub holding : List ℕ

-- the problem that five tables hold
abbrev pub problem_with : (demand capacity setup unit holding : List ℕ) → Problem
problem_with demand capacity setup unit holding = record { demand = demand; capacity = capacity; setup = setup; unit = unit; holding = holding }

-- and a lent one
abbrev pub lent_problem : LentProblem → Problem
lent_problem l = problem_with l.demand.now l.capacity.now l.setup.now l.unit.now l.holding.now

-- n
abbrev pub periods : Problem → ℕ
periods p = length p.demand

-- N_i and C_i
abbrev pub demand_to : Problem → ℕ → ℕ
demand_to p i = sum_to (at p.demand) i

abbrev pub capacity_to : Problem → ℕ → ℕ
capacity_to p i = sum_to (at p.capacity) i

-- N over all periods
abbrev pub total : Problem → ℕ
total p = demand_to p (periods p)

-- the model under ceilings: N is the floor
abbrev pub model_under : Problem → (ℕ → ℕ) → Model
model_under p U = record {
  floor = demand_to p;
  ceiling = U;
  capacity = at p.capacity;
  setup = at p.setup;
  unit = at p.unit;
  holding = at p.holding;
}

-- the model in which no ceiling binds
abbrev pub model_of : Problem → Model
model_of p = model_under p (λ _. total p)

-- the ceilings that a table holds: its entry k is for what has been made after k + 1 periods
abbrev pub ceiling_in : List ℕ → ℕ → ℕ
ceiling_in l zero = 0
ceiling_in l (suc k) = at l k

abbrev pub model_within : Problem → List ℕ → Model
model_within p ceilings = model_under p (ceiling_in ceilings)

-- what the loops rely on so that no index and no sum is out of range
pub record Bounded (p : Problem) : Type 0 where
  pub nonempty : 1 ≤ periods p
  pub few : periods p ≤ max_periods
  pub capacities : length p.capacity ≡ periods p
  pub setups : length p.setup ≡ periods p
  pub units : length p.unit ≡ periods p
  pub holdings : length p.holding ≡ periods p
  pub demand : (k : ℕ) → k < periods p → at p.demand k ≤ max_demand
  pub capacity : (k : ℕ) → k < periods p → at p.capacity k ≤ max_capacity
  pub setup : (k : ℕ) → k < periods p → at p.setup k ≤ max_setup
  pub unit : (k : ℕ) → k < periods p → at p.unit k ≤ max_rate
  pub holding : (k : ℕ) → k < periods p → at p.holding k ≤ max_rate
  pub small : total p ≤ max_total

-- N ≤ C at every period
abbrev pub Supplied : Problem → Type 0
Supplied p = (k : ℕ) → k < periods p → demand_to p (suc k) ≤ capacity_to p (suc k)

-- no sum of a table is above that of all its entries
sum_whole : (l : List ℕ) (i : ℕ) → sum_to (at l) i ≤ sum_to (at l) (length l)
sum_whole l zero = omega arith
sum_whole l (suc i) = go (sum_whole l i) (dec_lt i (length l))
  where
    go : sum_to (at l) i ≤ sum_to (at l) (length l) → Dec (i < length l) → sum_to (at l) (suc i) ≤ sum_to (at l) (length l)
    go rec (yes h) = sum_grows (at l) (suc i) (length l) h
    go rec (no h) = omega (arith, get_or-eq_default l 0 {n = i} (omega arith))

module _ (p : Problem) where
  pub model_rising : {U : ℕ → ℕ} → Rising (model_under p U)
  model_rising = record { nought = refl; rises = λ k. omega arith }

  pub model_unlimited : Unlimited (model_of p)
  model_unlimited i j = sum_whole p.demand i

  -- the totals that can be reached after i periods end with the smaller of C and N over all periods
  high_is : (i : ℕ) → high (model_of p) i ≡ min (capacity_to p i) (total p)
  high_is = high_open (model_of p) (total p) (λ _. refl)

  -- where no period is short, N can be reached in every one
  pub supplied_covered : Supplied p → Covered (model_of p) (periods p)
  supplied_covered s zero l = omega arith
  supplied_covered s (suc j) l = omega (arith, s j l, high_is (suc j), sum_grows (at p.demand) (suc j) (periods p) l)
