-- What the walk over a day's periods carries from one to the next, and what one period does to it.
-- Main statement: `ruling_is`: where a period breaks no rule, the sums are then those through it. Assumes nothing.
use Rattle.std.specs.Prelude.{◌≡◌, refl, Bool, true, false, ◌&&◌, ◌||◌, List, ℕ, suc, ◌+◌, ◌-◌, ◌*◌, ◌^◌, ◌≤◌, ◌<◌, eqb, ltb, length, Result, Ok, Err}
use Rattle.std.proofs.Common.{add_assoc, arith}
use Rattle.day.specs.Sums.{at, sum_to}
use Rattle.day.specs.Day.{Day, entries_at, periods, due_of, demand_to, max_periods, max_sum}
use Rattle.day.specs.Plan.{making, cost_to, Feasible, setup_at, setups}
use Rattle.day.specs.declared.Entries.{Entries}
use Rattle.day.specs.declared.Sizes.{Sizes}
use Rattle.day.specs.declared.Totals.{Totals}
use Rattle.day.specs.Outcome.{Path}
use Rattle.checks.specs.Passed.{SameLengths, Admitted}
use Rattle.weigher.specs.declared.Fault.{Fault}
use Rattle.weigher.specs.declared.Rule.{Rule}
use Rattle.weigher.specs.declared.Sums.{Sums}
use Rattle.weigher.specs.Verdict.{breaks, rule_of, rule_at}

-- the sums through the first i periods: sum (1), setups, A + X_i and R_i
abbrev pub sums_to : Day → (ℕ → ℕ) → ℕ → Sums
sums_to d x i = record { cost = cost_to d x i; setups = setups i x; supplied = d.opening + sum_to x i; demanded = demand_to d i }

-- what a period does: the sums through it, or the rule that it breaks
abbrev pub Ruling : Type 0
Ruling = Result Sums Rule

abbrev pub ruling_on : Bool → Rule → Sums → Ruling
ruling_on true r s = Err r
ruling_on false r s = Ok s

-- what period k + 1 does: the rule that it breaks, or the sums through it
abbrev pub ruling_at : Day → (ℕ → ℕ) → ℕ → Ruling
ruling_at d x k = ruling_on (breaks d x k) (rule_at d x k) (sums_to d x (suc k))

-- the same from one period's entries and the sums before it, in the report's order: what making costs, then the holding cost
abbrev pub next_of : Entries → ℕ → Sums → Sums
next_of p x s = record {
  cost = s.cost + making p.setup p.unit x + p.holding * (s.supplied - s.demanded + (s.supplied + x - (s.demanded + p.demand)));
  setups = s.setups + setup_at x;
  supplied = s.supplied + x;
  demanded = s.demanded + p.demand;
}

abbrev pub ruling_of : Entries → ℕ → (last : Bool) → Sums → (closing : ℕ) → Ruling
ruling_of p x last s closing =
    let t = next_of p x s in
    let due = due_of last t.demanded closing in
    let above = ltb p.capacity x in
    let short = ltb t.supplied due in
    let above_store = ltb p.store (t.supplied - t.demanded) in
    let over = last && ltb due t.supplied in
    ruling_on (above || short || above_store || over) (rule_of above short above_store) t

-- from the sums before a period, its entries give what the report says of it
pub ruling_is : (d : Day) (x : ℕ → ℕ) (k : ℕ)
    → ruling_of (entries_at d k) (x k) (eqb (suc k) (periods d)) (sums_to d x k) d.closing ≡ ruling_at d x k
ruling_is d x k = rw (add_assoc d.opening, add_assoc (cost_to d x k)) refl

-- sums that leave room for one period more, with a charge that is not below 0
pub record Room (s : Sums) : Type 0 where
  pub cost : s.cost < 2 ^ 63
  pub setups : s.setups < 2 ^ 7
  pub supplied : s.supplied ≤ max_sum
  pub served : s.demanded ≤ s.supplied

-- tables of one length, at most 96, and a plan that has an amount for each period
pub record Weighable (d : Day) (plan : List ℕ) : Type 0 where
  pub few : periods d ≤ max_periods
  pub lengths : SameLengths d
  pub amounts : periods d ≤ length plan

-- and the plan keeps every rule
pub record FeasiblePlan (d : Day) (plan : List ℕ) : Type 0 where
  pub weighable : Weighable d plan
  pub feasible : Feasible d (at plan)

-- so is what a path leaves in the slots that it was lent, where it is a plan of a day that passed the tests
pub path_plan : {P : Path} {d : Day} {s : Sizes} {plan : List ℕ} → Admitted P d s → length plan ≡ s.slots → Feasible d (at plan) → FeasiblePlan d plan
path_plan ok size f =
    record {
      weighable = record {
        few = ok.day.limits.few;
        lengths = ok.day.limits.lengths;
        amounts = omega (arith, ok.room.slots);
      };
      feasible = f;
    }

-- period i + 1 is to be judged, A has 16 bits, and s holds the sums through the periods before it, which leave no charge below 0
pub record NextPeriod (d : Day) (plan : List ℕ) (i : ℕ) (s : Sums) : Type 0 where
  pub weighable : Weighable d plan
  pub inside : i < periods d
  pub opening : d.opening < 2 ^ 16
  pub sums : s ≡ sums_to d (at plan) i
  pub served : demand_to d i ≤ d.opening + sum_to (at plan) i

-- the cost that an answer holds, where it holds one, fits a signed 64-bit number
abbrev pub Signed : Result Totals Fault → Type 0
Signed (Ok t) = t.cost < 2 ^ 63
Signed (Err f) = Unit {0}
