-- A day: its six tables and its two ends, its limits, and the sums R, C and T (report, section 2).
-- Assumes nothing.
use Rattle.std.specs.Prelude.{◌≡◌, refl, Bool, true, false, cond, List, ℕ, ◌+◌, ◌-◌, ◌*◌, ◌≤◌, ◌<◌, eqb, length}
use Rattle.std.proofs.Common.{arith, eq-eqb, ne_eqb}
use Rattle.day.specs.declared.Ends.{Ends}
use Rattle.day.specs.declared.Entries.{Entries}
use Rattle.day.specs.Sums.{at, sum_to}

-- One entry a period. In the operators' words: need r, capacity c, start cost b, unit cost p, upkeep h, store limit s.
-- Then the inventory that the day begins with, and that which it hands on: opening charge A, closing charge Z.
pub record Day : Type 0 where
  pub demand : List ℕ
  pub capacity : List ℕ
  pub setup : List ℕ
  pub unit : List ℕ
  pub holding : List ℕ
  pub store : List ℕ
  pub opening : ℕ
  pub closing : ℕ

-- the day that six lent tables hold, with its ends
abbrev pub day_of : (demand capacity setup unit holding store : List ℕ) → Ends → Day
day_of demand capacity setup unit holding store ends = record {
  demand = demand;
  capacity = capacity;
  setup = setup;
  unit = unit;
  holding = holding;
  store = store;
  opening = ends.opening;
  closing = ends.closing;
}

abbrev pub ends_with : (opening closing : ℕ) → Ends
ends_with opening closing = record { opening = opening; closing = closing }

-- both 0, where they are not given: the day of tables alone
abbrev pub no_ends : Ends
no_ends = ends_with 0 0

abbrev pub tables_of : (demand capacity setup unit holding store : List ℕ) → Day
tables_of demand capacity setup unit holding store = day_of demand capacity setup unit holding store no_ends

-- the ends of a day
abbrev pub ends_of : Day → Ends
ends_of d = ends_with d.opening d.closing

-- the day with another table of needs
abbrev pub with_demand : List ℕ → Day → Day
with_demand needs d = day_of needs d.capacity d.setup d.unit d.holding d.store (ends_of d)

-- and with other start costs
abbrev pub with_setup : List ℕ → Day → Day
with_setup setup d = day_of d.demand d.capacity setup d.unit d.holding d.store (ends_of d)

-- each table of the day has an entry at index i
pub record HasPeriod (d : Day) (i : ℕ) : Type 0 where
  pub demand : i < length d.demand
  pub capacity : i < length d.capacity
  pub setup : i < length d.setup
  pub unit : i < length d.unit
  pub holding : i < length d.holding
  pub store : i < length d.store

-- and what they are
abbrev pub entries_at : Day → ℕ → Entries
entries_at d i = record {
  demand = at d.demand i;
  capacity = at d.capacity i;
  setup = at d.setup i;
  unit = at d.unit i;
  holding = at d.holding i;
  store = at d.store i;
}

-- n
abbrev pub periods : Day → ℕ
periods d = length d.demand

-- the most that is allowed: n, r, c, b, p; h, which is paid for half a period; R + Z over the day, and over a big day.
-- A and Z are numbers of 16 bits, and so is s, whose highest value is above any R + Z that is allowed: it limits nothing.
abbrev pub max_periods : ℕ
max_periods = 96

abbrev pub max_demand : ℕ
max_demand = 4096

abbrev pub max_capacity : ℕ
max_capacity = 65535

abbrev pub max_setup : ℕ
max_setup = 1000000000

abbrev pub max_rate : ℕ
max_rate = 1000000

abbrev pub max_half_rate : ℕ
max_half_rate = 500000

abbrev pub max_total : ℕ
max_total = 4096

abbrev pub max_big_total : ℕ
max_big_total = 60000

abbrev pub max_store : ℕ
max_store = 65535

-- no sum of 96 numbers of 16 bits and one more is above this
abbrev pub max_sum : ℕ
max_sum = (max_periods + 1) * max_capacity

-- R_i and C_i
abbrev pub demand_to : Day → ℕ → ℕ
demand_to d i = sum_to (at d.demand) i

abbrev pub capacity_to : Day → ℕ → ℕ
capacity_to d i = sum_to (at d.capacity) i

-- R + Z: what the day delivers and hands on
abbrev pub required : Day → ℕ
required d = demand_to d (periods d) + d.closing

-- T = R + Z − A: what is made over the day
abbrev pub total : Day → ℕ
total d = required d - d.opening

-- what must have been there after i periods: R_i, and Z with it once the day is over
abbrev pub due_of : (last : Bool) (demanded closing : ℕ) → ℕ
due_of last demanded closing = cond last (demanded + closing) demanded

abbrev pub due_to : Day → ℕ → ℕ
due_to d i = due_of (eqb i (periods d)) (demand_to d i) d.closing

-- what must have been made after i periods: R_i − A, never below 0, and T once the day is over
abbrev pub net_to : Day → ℕ → ℕ
net_to d i = due_to d i - d.opening

pub due_least : (last : Bool) (demanded closing : ℕ) → demanded ≤ due_of last demanded closing
due_least true demanded closing = omega arith
due_least false demanded closing = omega arith

pub net_before : (d : Day) (i : ℕ) → i < periods d → net_to d i ≡ demand_to d i - d.opening
net_before d i l = rw (ne_eqb i (periods d) (λ e. omega arith)) refl

pub net_end : (d : Day) → net_to d (periods d) ≡ total d
net_end d = rw (eq-eqb (periods d) (periods d) refl) refl
