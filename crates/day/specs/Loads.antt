-- How a plan loads the cell, and the contract of the equal path, whose answer counts the loads of its runs.
-- Main definitions: `Run`, `RunLoads`, `loads_through`, `EqualRuns`; `m11_loads` shows them on M11. Assumes nothing.
use Rattle.std.specs.Prelude.{◌≡◌, refl, Bool, true, false, ◌&&◌, [], ◌∷◌, ◌⊎◌, ◌≢◌, ℕ, ◌+◌, ◌-◌, ◌/◌, ◌%◌, ◌≤◌, ◌<◌, eqb, ltb, Result, Ok, Err}
use Rattle.std.proofs.Common.{arith, lt-ltb, le-ltb, eq-eqb, ne_eqb}
use Rattle.day.specs.declared.Loads.{Loads}
use Rattle.day.specs.declared.Refusal.{Refusal}
use Rattle.day.specs.declared.Totals.{Totals}
use Rattle.day.specs.Sums.{at, sum_to}
use Rattle.day.specs.Day.{Day, periods}
use Rattle.day.specs.Plan.{inventory, cost, setups}
use Rattle.day.specs.Figures.{accepted_with, equal_figures}
use Rattle.day.specs.Outcome.{Memory, Runs}
use Rattle.day.specs.Paths.{equal}

-- a run (the report's regeneration interval, where A and Z are 0): the periods a + 1 to b lie between two moments with empty store, the charge
-- being above 0 in between; it also begins and ends with the day
pub record Run (d : Day) (x : ℕ → ℕ) (a b : ℕ) : Type 0 where
  pub ahead : a < b
  pub inside : b ≤ periods d
  pub begins : (a ≡ 0) ⊎ (inventory d x a ≡ 0)
  pub ends : (b ≡ periods d) ⊎ (inventory d x b ≡ 0)
  pub above : (i : ℕ) → a < i → i < b → 0 < inventory d x i

-- 1 where a condition holds
abbrev pub one_if : Bool → ℕ
one_if true = 1
one_if false = 0

neither : (b : Bool) → one_if (b && false) ≡ 0
neither true = refl
neither false = refl

-- 1 for a full-load period, which makes its capacity c; one that makes nothing is none, also where c is 0
abbrev pub full_at : (c x : ℕ) → ℕ
full_at c x = one_if (ltb 0 x && eqb x c)

-- 1 for a part-loaded period, which makes something, and less than its capacity c
abbrev pub part_at : (c x : ℕ) → ℕ
part_at c x = one_if (ltb 0 x && ltb x c)

-- `full_at` and `part_at` case by case: 1; 0; and 0 of an idle period
pub full_yes : {c x : ℕ} → 0 < x → x ≡ c → full_at c x ≡ 1
full_yes {c} {x} some e = rw (lt-ltb 0 x some, eq-eqb x c e) refl

pub full_no : {c x : ℕ} → x ≢ c → full_at c x ≡ 0
full_no {c} {x} h = rw (ne_eqb x c h) (neither (ltb 0 x))

pub part_yes : {c x : ℕ} → 0 < x → x < c → part_at c x ≡ 1
part_yes {c} {x} some less = rw (lt-ltb 0 x some, lt-ltb x c less) refl

pub part_no : {c x : ℕ} → c ≤ x → part_at c x ≡ 0
part_no {c} {x} h = rw (le-ltb x c h) (neither (ltb 0 x))

pub idle_none : (c : ℕ) {x : ℕ} → x ≡ 0 → (full_at c x ≡ 0) × (part_at c x ≡ 0)
idle_none c e = rw e (refl, refl)

-- how many of the first i periods are full-load periods, and how many are part-loaded; c has each period's capacity
abbrev pub full_to : (c x : ℕ → ℕ) → ℕ → ℕ
full_to c x i = sum_to (λ k. full_at (c k) (x k)) i

abbrev pub part_to : (c x : ℕ → ℕ) → ℕ → ℕ
part_to c x i = sum_to (λ k. part_at (c k) (x k)) i

abbrev pub loads_through : (c x : ℕ → ℕ) → ℕ → Loads
loads_through c x i = record { full = full_to c x i; part = part_to c x i }

-- what the periods a + 1 to b add to a running sum
abbrev pub added : (ℕ → ℕ) → (a b : ℕ) → ℕ
added s a b = s b - s a

-- W, what they make
abbrev pub made_in : (ℕ → ℕ) → (a b : ℕ) → ℕ
made_in x a b = added (sum_to x) a b

-- Of the periods a + 1 to b, which make W, exactly W ÷ c rounded down make c, and exactly one is part-loaded if the remainder is above 0, none if it
-- is 0; c is the capacity of the first period, and so of all where it is the same throughout.
pub record RunLoads (c x : ℕ → ℕ) (a b : ℕ) : Type 0 where
  pub full : added (full_to c x) a b ≡ made_in x a b / c 0
  pub part : 0 < made_in x a b % c 0 → added (part_to c x) a b ≡ 1
  pub none : made_in x a b % c 0 ≡ 0 → added (part_to c x) a b ≡ 0

-- the first b periods as runs, one after another
pub data Divided (d : Day) (x : ℕ → ℕ) : ℕ → Type 0 where
  begin : Divided d x 0
  then : (a b : ℕ) → Divided d x a → Run d x a b → Divided d x b

-- what the statement above gives for them in all: W ÷ c for each, and 1 for each that leaves a remainder
abbrev pub loads_of : {d : Day} {x : ℕ → ℕ} {b : ℕ} → Divided d x b → Loads
loads_of begin = record { full = 0; part = 0 }
loads_of {d} {x} (then a b before run) =
    let c = at d.capacity 0 in
    record { full = (loads_of before).full + made_in x a b / c; part = (loads_of before).part + one_if (ltb 0 (made_in x a b % c)) }

-- M11's plan, 4 0 3 where capacities are 4: its first run makes 4, one full load, and its second 3, one part load.
pub m11_loads : let c = at (4 ∷ 4 ∷ 4 ∷ []) in let x = at (4 ∷ 0 ∷ 3 ∷ []) in RunLoads c x 0 2 × RunLoads c x 2 3
m11_loads = (
  record { full = refl; part = λ h. absurd (omega arith); none = λ _. refl },
  record { full = refl; part = λ _. refl; none = λ h. absurd (omega arith) },
)

-- the equal path's answer as every path has it, without the loads
abbrev pub path_answer : Result (Totals × Loads) Refusal → Result Totals Refusal
path_answer (Ok p) = Ok p.0
path_answer (Err r) = Err r

-- what an accepted answer gives is the plan's cost, setups, full-load and part-loaded periods over the day, by the answer's figures
abbrev pub CountsLoads : Day → (ℕ → ℕ) → Result (Totals × Loads) Refusal → Type 0
CountsLoads d x (Err r) = Unit {0}
CountsLoads d x (Ok p) =
    let c = at d.capacity in
    let n = periods d in
    equal_figures (Ok p) ≡ accepted_with (cost d x ∷ setups n x ∷ full_to c x n ∷ part_to c x n ∷ [])

-- the contract of the equal path: that of every path, and the loads of the plan in its slots
pub record EqualRuns (d : Day) (before : Memory) (r : Result (Totals × Loads) Refusal) (after : Memory) : Type 0 where
  pub runs : Runs equal d before (path_answer r) after
  pub loads : CountsLoads d (at after.slots) r
