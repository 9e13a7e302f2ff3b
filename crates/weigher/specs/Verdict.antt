-- The weigher's verdict on a plan, in the report's terms (report, section 2).
-- A plan is a function from periods to amounts, as in the crate day's Plan. Index k is period k + 1.
-- Main definition: `verdict_of`. Assumes nothing.
use Rattle.std.specs.Prelude.{Bool, true, false, ◌&&◌, ◌||◌, ℕ, suc, ◌+◌, eqb, ltb, Option, None, Some, Result, Ok, Err}
use Rattle.day.specs.declared.Totals.{Totals}
use Rattle.day.specs.Sums.{at, sum_to}
use Rattle.day.specs.Find.{find}
use Rattle.day.specs.Day.{Day, periods, due_to}
use Rattle.day.specs.Plan.{inventory, cost, setups}
use Rattle.weigher.specs.declared.Breach.{Breach}
use Rattle.weigher.specs.declared.Rule.{Rule}
use Rattle.weigher.specs.declared.Rule.TheVariants.{AboveCapacity, Short, AboveStore, Over}

-- that a plan holds, with its totals; or the rule that it breaks first, with the period
abbrev pub Verdict : Type 0
Verdict = Result Totals Breach

abbrev pub breach : Rule → (period : ℕ) → Breach
breach r i = record { rule = r; period = i }

-- the amount is above the capacity
abbrev pub above_at : Day → (ℕ → ℕ) → ℕ → Bool
above_at d x k = ltb (at d.capacity k) (x k)

-- the charge left, A + X − R, would be below 0, or is below Z in period n
abbrev pub short_at : Day → (ℕ → ℕ) → ℕ → Bool
short_at d x k = ltb (d.opening + sum_to x (suc k)) (due_to d (suc k))

-- it is above the period's store limit; A, before period 1, has none
abbrev pub above_store_at : Day → (ℕ → ℕ) → ℕ → Bool
above_store_at d x k = ltb (at d.store k) (inventory d x (suc k))

-- it is above Z in period n
abbrev pub over_at : Day → (ℕ → ℕ) → ℕ → Bool
over_at d x k = eqb (suc k) (periods d) && ltb (due_to d (suc k)) (d.opening + sum_to x (suc k))

-- a period breaks some rule
abbrev pub breaks : Day → (ℕ → ℕ) → ℕ → Bool
breaks d x k = above_at d x k || short_at d x k || above_store_at d x k || over_at d x k

-- which one, in their order: above capacity, short, above store, over
abbrev pub rule_of : (above short above_store : Bool) → Rule
rule_of true b c = AboveCapacity
rule_of false true c = Short
rule_of false false true = AboveStore
rule_of false false false = Over

abbrev pub rule_at : Day → (ℕ → ℕ) → ℕ → Rule
rule_at d x k = rule_of (above_at d x k) (short_at d x k) (above_store_at d x k)

-- the cost, sum (1), and the setups
abbrev pub totals_of : Day → (ℕ → ℕ) → Totals
totals_of d x = record { cost = cost d x; setups = setups (periods d) x }

-- the first period that breaks a rule decides
abbrev pub verdict_at : Day → (ℕ → ℕ) → Option ℕ → Verdict
verdict_at d x None = Ok (totals_of d x)
verdict_at d x (Some k) = Err (breach (rule_at d x k) (suc k))

abbrev pub verdict_of : Day → (ℕ → ℕ) → Verdict
verdict_of d x = verdict_at d x (find (breaks d x) (periods d))
