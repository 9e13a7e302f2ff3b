-- Bounds on a day's sums from the widths of its tables.
-- Main statements: `sums_low`, `weighed_signed`. Assumes nothing.
use Rattle.std.specs.Prelude.{Option, None, Some}
use Rattle.std.proofs.Common.{◌≡◌, refl, List, [], ◌∷◌, ℕ, zero, suc, ◌+◌, ◌*◌, ◌^◌, ◌≤◌, ◌<◌, length, le_trans, le_of_lt, arith, w16, Fits}
use Rattle.std.proofs.Math.Nat.{mul-le-mul_right, suc-mul}
use Rattle.day.specs.declared.Refusal.{Refusal}
use Rattle.day.specs.Sums.{at, sum_to}
use Rattle.day.specs.Find.{find}
use Rattle.day.specs.Day.{Day, periods, demand_to, max_periods, max_capacity, max_total, max_sum}
use Rattle.day.specs.Widths.{Widths}
use Rattle.day.specs.Plan.{inventory, cost_at, cost_to, setup_at}
use Rattle.day.specs.Refusals.{day_tests, bad_slots}
use Rattle.day.specs.Tests.{first_split}
use Rattle.checks.specs.Passed.{DayLimits, day_passed}
use Rattle.terms.specs.Low.{paid_low, making_low, setup_low}
use Rattle.weigher.specs.Verdict.{breaks, verdict_at, verdict_of}
use Rattle.weigher.specs.Answers.{weigh_refusal, judged, or_refused, weighed_of}
use Rattle.weigher.specs.Walk.{sums_to, Room, Signed}

-- every entry fits its table's width, and every amount 16 bits
pub record Wide (d : Day) (x : ℕ → ℕ) : Type 0 where
  pub tables : Widths d.demand d.capacity d.setup d.unit d.holding d.store
  pub amount : (k : ℕ) → Fits w16 (x k)

-- terms of a day's periods, each at most `top`
pub sum_low : (f : ℕ → ℕ) (top i : ℕ) → i ≤ max_periods → ((k : ℕ) → k < i → f k ≤ top) → sum_to f i ≤ max_periods * top
sum_low f top i few h = le_trans (go i h) (mul-le-mul_right top few)
  where
    go : (j : ℕ) → ((k : ℕ) → k < j → f k ≤ top) → sum_to f j ≤ j * top
    go zero h = omega arith
    go (suc j) h = rw suc-mul (omega (arith, go j (λ k l. h k (omega arith)), h j (omega arith)))

module _ (d : Day) (x : ℕ → ℕ) (wide : Wide d x) (low : d.opening < 2 ^ 16) where
  supplied_low : (i : ℕ) → i ≤ max_periods → d.opening + sum_to x i ≤ max_sum
  supplied_low i few = omega (arith, sum_low x max_capacity i few (λ k l. omega (arith, wide.amount k)), low)

  pub cost_low : (i : ℕ) → i ≤ max_periods → cost_to d x i < 2 ^ 63
  cost_low i few = omega (arith, sum_low (cost_at d x) (2 ^ 49 + 2 ^ 56) i few term)
    where
      term : (k : ℕ) → k < i → cost_at d x k ≤ 2 ^ 49 + 2 ^ 56
      term k l =
          omega (
            arith,
            making_low _ _ (x k) (le_of_lt (wide.tables.setup k).fits) (le_of_lt (wide.tables.unit k).fits) (le_of_lt (wide.amount k).fits),
            paid_low _ (inventory d x k + inventory d x (suc k)) (wide.tables.holding k).fits
                (omega (arith, supplied_low k (omega arith), supplied_low (suc k) (omega arith))),
          )

  pub sums_low : (i : ℕ) → i ≤ max_periods → demand_to d i ≤ d.opening + sum_to x i → Room (sums_to d x i)
  sums_low i few served = record {
    cost = cost_low i few;
    setups = omega (arith, sum_low (λ k. setup_at (x k)) 1 i few (λ k l. setup_low (x k)));
    supplied = supplied_low i few;
    served = served;
  }

-- the cost that the weigher answers fits a signed 64-bit number
pub weighed_signed : (d : Day) (plan : List ℕ) → Wide d (at plan) → Signed (weighed_of d plan)
weighed_signed d plan wide = go (weigh_refusal d plan) refl
  where
    signed : DayLimits max_total d → (f : Option ℕ) → Signed (judged (verdict_at d (at plan) f))
    signed l None = cost_low d (at plan) wide (omega (arith, l.small, l.used)) (periods d) l.limits.few
    signed l (Some k) = tt

    go : (r : Option Refusal) → weigh_refusal d plan ≡ r → Signed (or_refused r (verdict_of d (at plan)))
    go (Some r) e = tt
    go None e =
        signed
        (day_passed d (first_split (day_tests max_total d) (bad_slots (length plan) (periods d) ∷ []) e).0)
        (find (breaks d (at plan)) (periods d))
