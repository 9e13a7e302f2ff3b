-- What is refused, and when: conditions 1 to 9 and 14 to 19, each as a definition, and the number and period of each refusal.
-- A call's first refusal in order is `first` of a list of these; laws of such lists are in `Tests`. Conditions 10 to 13 and 20 are in `File`.
-- Assumes nothing.
use Rattle.std.specs.Prelude.{◌≡◌, Bool, true, false, not, ◌||◌, List, [], ◌∷◌, ◌++◌, ℕ, suc, ◌+◌, ◌-◌}
use Rattle.std.specs.Prelude.{◌<◌, eqb, ltb, length, Option, None, Some, Result, Ok, Err}
use Rattle.day.specs.declared.Entries.{Entries}
use Rattle.day.specs.declared.Refusal.{Refusal}
use Rattle.day.specs.declared.Refusal.TheVariants.{PeriodCount, TableLength, AboveLimit, TotalDemand, ShortArea, FewSlots, Shortage}
use Rattle.day.specs.declared.Refusal.TheVariants.{UnequalCapacities, BindingCapacity}
use Rattle.day.specs.declared.Refusal.TheVariants.{UnknownKind, TruncatedFile, WrongEnd, NoSuchPeriod, SurplusInventory, PaidSetup, LowStore}
use Rattle.day.specs.declared.Refusal.TheVariants.{OpeningInventory, ReversedRange, NoTrials, WrongStamp}
use Rattle.day.specs.Sums.{at, capped_to}
use Rattle.day.specs.Find.{find}
use Rattle.day.specs.Day.{Day, periods, max_periods, max_demand, max_capacity, max_setup, max_rate, max_half_rate, max_store}
use Rattle.day.specs.Day.{entries_at, with_demand, demand_to, required, total, net_to}
use Rattle.day.specs.Plan.{KeepsTo}

-- the number of a refusal (docs/station.md)
abbrev pub number_of : Refusal → ℕ
number_of PeriodCount = 1
number_of TableLength = 2
number_of (AboveLimit i) = 3
number_of TotalDemand = 4
number_of ShortArea = 5
number_of FewSlots = 6
number_of (Shortage i) = 7
number_of UnequalCapacities = 8
number_of (BindingCapacity i) = 9
number_of UnknownKind = 10
number_of TruncatedFile = 11
number_of WrongEnd = 12
number_of NoSuchPeriod = 13
number_of SurplusInventory = 14
number_of (PaidSetup i) = 15
number_of (LowStore i) = 16
number_of OpeningInventory = 17
number_of (ReversedRange i) = 18
number_of NoTrials = 19
number_of WrongStamp = 20

-- the period that it names, counted from 1; 0 where it names none
abbrev pub period_of : Refusal → ℕ
period_of PeriodCount = 0
period_of TableLength = 0
period_of (AboveLimit i) = i
period_of TotalDemand = 0
period_of ShortArea = 0
period_of FewSlots = 0
period_of (Shortage i) = i
period_of UnequalCapacities = 0
period_of (BindingCapacity i) = i
period_of UnknownKind = 0
period_of TruncatedFile = 0
period_of WrongEnd = 0
period_of NoSuchPeriod = 0
period_of SurplusInventory = 0
period_of (PaidSetup i) = i
period_of (LowStore i) = i
period_of OpeningInventory = 0
period_of (ReversedRange i) = i
period_of NoTrials = 0
period_of WrongStamp = 0

-- the refusal, where its condition holds
abbrev pub refuse : Bool → Refusal → Option Refusal
refuse true r = Some r
refuse false r = None

-- the refusal with the first period in which its condition holds; index k is period k + 1
abbrev pub refuse_at : (ℕ → Refusal) → Option ℕ → Option Refusal
refuse_at r None = None
refuse_at r (Some k) = Some (r (suc k))

-- the first of several
abbrev pub or_next : Option Refusal → Option Refusal → Option Refusal
or_next None o = o
or_next (Some r) o = Some r

abbrev pub first : List (Option Refusal) → Option Refusal
first [] = None
first (o ∷ rest) = or_next o (first rest)

-- r is given where o is a call's first refusal in order: it has the number and period of that one, which fix it (`gives_is`)
pub record Gives (o : Option Refusal) (r : Refusal) : Type 0 where
  pub first : Refusal
  pub is : o ≡ Some first
  pub number : number_of r ≡ number_of first
  pub period : period_of r ≡ period_of first

-- what a call's tests answer
abbrev pub checked : Option Refusal → Result Unit Refusal
checked None = Ok tt
checked (Some r) = Err r

-- 1: n is 0 or above 96
abbrev pub bad_count : ℕ → Option Refusal
bad_count n = refuse (eqb n 0 || ltb max_periods n) PeriodCount

-- 2: a table is not as long as the demand table
abbrev pub bad_lengths : Day → Option Refusal
bad_lengths d =
    refuse
    (not (eqb (length d.capacity) (periods d))
    || not (eqb (length d.setup) (periods d))
    || not (eqb (length d.unit) (periods d))
    || not (eqb (length d.holding) (periods d))
    || not (eqb (length d.store) (periods d)))
    TableLength

-- 3: a value above its limit; a capacity or a store limit, of 16 bits, never is
abbrev pub above : Entries → Bool
above p =
    ltb max_demand p.demand
    || ltb max_capacity p.capacity
    || ltb max_setup p.setup
    || ltb max_rate p.unit
    || ltb max_half_rate p.holding
    || ltb max_store p.store

abbrev pub above_limit : Day → ℕ → Bool
above_limit d k = above (entries_at d k)

abbrev pub bad_value : Day → Option Refusal
bad_value d = refuse_at AboveLimit (find (above_limit d) (periods d))

-- 4: R + Z above the call's limit: `max_total`, or `max_big_total`
abbrev pub bad_total : (limit : ℕ) → Day → Option Refusal
bad_total limit d = refuse (ltb limit (required d)) TotalDemand

-- 14: A above R + Z
abbrev pub bad_opening : Day → Option Refusal
bad_opening d = refuse (ltb (required d) d.opening) SurplusInventory

-- 5: a work area shorter than the path needs: cost cells, choice cells
abbrev pub bad_areas : (costs needed choices needed' : ℕ) → Option Refusal
bad_areas costs needed choices needed' = refuse (ltb costs needed || ltb choices needed') ShortArea

-- 6: answer slots, or cells of a plan or a table, fewer than needed
abbrev pub bad_slots : (slots needed : ℕ) → Option Refusal
bad_slots slots needed = refuse (ltb slots needed) FewSlots

-- 7: no amounts for periods 1 to k + 1 keep the conditions through k + 1. The test is on sums; that it says just this of a day that 14 lets pass is
-- `shortage_names` (theory/proofs/Demands).
-- The most that can have been made after i periods: no more than c in each, and with A no more than R + s after each; 0 where A alone is more
abbrev pub most_to : Day → ℕ → ℕ
most_to d i = capped_to (at d.capacity) (λ k. demand_to d (suc k) + at d.store k - d.opening) i

-- A alone is above R + s, or what must have been made is above that most
abbrev pub short : Day → ℕ → Bool
short d k = ltb (demand_to d (suc k) + at d.store k) d.opening || ltb (most_to d (suc k)) (net_to d (suc k))

abbrev pub shortage : Day → Option Refusal
shortage d = refuse_at Shortage (find (short d) (periods d))

-- r is 7 with period k + 1, which fails, as each before it does not
pub record FirstAt (d : Day) (Fails Passes : ℕ → Type 0) (r : Refusal) : Type 0 where
  pub k : ℕ
  pub number : number_of r ≡ 7
  pub period : period_of r ≡ suc k
  pub inside : k < periods d
  pub fails : Fails k
  pub earlier : (j : ℕ) → j < k → Passes j

-- what 7 says: no amounts keep the conditions through that period, and through each before it some do
abbrev pub FirstShort : Day → Refusal → Type 0
FirstShort d r = FirstAt d (λ k. (x : ℕ → ℕ) → KeepsTo d (suc k) x → ⊥) (λ k. (x : ℕ → ℕ) × KeepsTo d (suc k) x) r

-- 8: capacities differ
abbrev pub differs : Day → ℕ → Bool
differs d k = not (eqb (at d.capacity k) (at d.capacity 0))

abbrev pub anywhere : Option ℕ → Refusal → Option Refusal
anywhere None r = None
anywhere (Some k) r = Some r

abbrev pub unequal : Day → Option Refusal
unequal d = anywhere (find (differs d) (periods d)) UnequalCapacities

-- 9: a capacity may bind: it is below T less the larger of 0 and (R before its period − A)
abbrev pub binds : Day → ℕ → Bool
binds d k = ltb (at d.capacity k) (total d - (demand_to d k - d.opening))

abbrev pub binding : Day → Option Refusal
binding d = refuse_at BindingCapacity (find (binds d) (periods d))

-- 15: a setup cost above 0
abbrev pub paid : Day → ℕ → Bool
paid d k = ltb 0 (at d.setup k)

abbrev pub paid_setup : Day → Option Refusal
paid_setup d = refuse_at PaidSetup (find (paid d) (periods d))

-- 16: a store limit is below R + Z, so it may bind
abbrev pub tight : Day → ℕ → Bool
tight d k = ltb (at d.store k) (required d)

abbrev pub low_store : Day → Option Refusal
low_store d = refuse_at LowStore (find (tight d) (periods d))

-- 2 and 3 where a call reads a second table of needs: it too is as long as the demand table, and a value of either day counts
abbrev pub bad_second : List ℕ → Day → Option Refusal
bad_second needs d = refuse (not (eqb (length needs) (periods d))) TableLength

abbrev pub either_above : List ℕ → Day → ℕ → Bool
either_above needs d k = above_limit d k || above_limit (with_demand needs d) k

abbrev pub bad_values : List ℕ → Day → Option Refusal
bad_values needs d = refuse_at AboveLimit (find (either_above needs d) (periods d))

-- 17: A above 0
abbrev pub opened : Day → Option Refusal
opened d = refuse (ltb 0 d.opening) OpeningInventory

-- 18: a lowest need above its highest, which is the day's
abbrev pub reverses : List ℕ → Day → ℕ → Bool
reverses lowest d k = ltb (at d.demand k) (at lowest k)

abbrev pub reversed : List ℕ → Day → Option Refusal
reversed lowest d = refuse_at ReversedRange (find (reverses lowest d) (periods d))

-- 19: no trial is allowed
abbrev pub no_trials : (trials : ℕ) → Option Refusal
no_trials trials = refuse (eqb trials 0) NoTrials

-- the tests that open every call on tables: 1, 2, 3
abbrev pub table_tests : Day → List (Option Refusal)
table_tests d = bad_count (periods d) ∷ bad_lengths d ∷ bad_value d ∷ []

-- and of one that reads a second table of needs: 1, then 2 and 3 on both
abbrev pub pair_tests : List ℕ → Day → List (Option Refusal)
pair_tests needs d = bad_count (periods d) ∷ bad_lengths d ∷ bad_second needs d ∷ bad_values needs d ∷ []

-- those on what the day needs over all: 4, and 14 right after it
abbrev pub total_tests : (limit : ℕ) → Day → List (Option Refusal)
total_tests limit d = bad_total limit d ∷ bad_opening d ∷ []

-- and those of a call on a day: 1, 2, 3, 4, 14
abbrev pub day_tests : (limit : ℕ) → Day → List (Option Refusal)
day_tests limit d = table_tests d ++ total_tests limit d
