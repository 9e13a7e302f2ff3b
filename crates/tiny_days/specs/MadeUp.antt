-- What a made-up day is: its numbers are draws as those of a test load.
-- Main definitions: `made_up`, `days_from`. Assumes nothing.
use Rattle.std.specs.Prelude.{◌≡◌, List, [], ◌∷◌, ℕ, zero, suc, ◌+◌, ◌%◌, ◌≤◌, length, min, take}
use Rattle.day.specs.declared.Ends.{Ends}
use Rattle.day.specs.Day.{Day, day_of}
use Rattle.test_load.specs.Draws.{seed_after, drawn}
use Rattle.tiny_days.specs.declared.Capacities.{Capacities}
use Rattle.tiny_days.specs.declared.Capacities.TheVariants.{Any, Equal, Unbound}
use Rattle.tiny_days.specs.declared.Stores.{Stores}
use Rattle.tiny_days.specs.declared.Stores.TheVariants.{Unlimited, Low, Ample}
use Rattle.tiny_days.specs.declared.Drawn.{Drawn}
use Rattle.tiny_days.specs.declared.Tiny.{Tiny}
use Rattle.tiny_days.specs.declared.Kind.{Kind}
use Rattle.tiny_days.specs.declared.Days.{Days}

-- the capacity drawn for the period, the one drawn for the day, or 10, which all that a tiny day makes does not exceed
abbrev pub capacity_of : Capacities → (drawn common : ℕ) → ℕ
capacity_of Any drawn common = drawn
capacity_of Equal drawn common = common
capacity_of Unbound drawn common = 10

-- the store limit: 65,535, which limits nothing, the one drawn, or 10, which R + Z of a tiny day does not exceed
abbrev pub store_of : Stores → (drawn : ℕ) → ℕ
store_of Unlimited drawn = 65535
store_of Low drawn = drawn
store_of Ample drawn = 10

-- one period: five draws, for demand, capacity, setup, unit and holding cost in this order
unfoldable pub drawn_of : ℕ → Capacities → ℕ → Drawn
drawn_of seed capacities common =
    record {
      demand = drawn seed 1 % 3;
      capacity = capacity_of capacities (drawn seed 2 % 5) common;
      setup = drawn seed 3 % 4;
      unit = drawn seed 4 % 3;
      holding = drawn seed 5 % 3;
    }

-- both ends: a draw each, opening before closing
abbrev pub ends_from : (seed most : ℕ) → Ends
ends_from seed most = record { opening = drawn seed 1 % (most + 1); closing = drawn seed 2 % (most + 1) }

-- the store limits: a draw each
unfoldable pub stores_from : ℕ → Stores → List ℕ
stores_from seed stores =
    store_of stores (drawn seed 1 % 6) ∷ store_of stores (drawn seed 2 % 6) ∷ store_of stores (drawn seed 3 % 6) ∷ store_of stores (drawn seed 4 % 6) ∷ []

-- four periods as tables, of which the first n cells count, with the store limits and the day's ends; and the next day's seed
abbrev pub tables_of : (seed n : ℕ) → (a b c d : Drawn) → List ℕ → Ends → Tiny
tables_of seed n a b c d store ends =
    record {
      seed = seed;
      n = n;
      demand = a.demand ∷ b.demand ∷ c.demand ∷ d.demand ∷ [];
      capacity = a.capacity ∷ b.capacity ∷ c.capacity ∷ d.capacity ∷ [];
      setup = a.setup ∷ b.setup ∷ c.setup ∷ d.setup ∷ [];
      unit = a.unit ∷ b.unit ∷ c.unit ∷ d.unit ∷ [];
      holding = a.holding ∷ b.holding ∷ c.holding ∷ d.holding ∷ [];
      store = store;
      ends = ends;
    }

-- a made-up day: a draw for the number of periods, one for the common capacity, then the periods, then the ends, then the store limits; the
-- next day's seed is the one after the periods
unfoldable pub made_up : ℕ → Kind → Tiny
made_up seed kind =
    let common = drawn seed 2 % 5 in
    let second = seed_after seed 2 in
    let third = seed_after second 5 in
    let fourth = seed_after third 5 in
    let fifth = seed_after fourth 5 in
    let last = seed_after fifth 5 in
    tables_of last (1 + drawn seed 1 % 4)
    (drawn_of second kind.capacities common)
    (drawn_of third kind.capacities common)
    (drawn_of fourth kind.capacities common)
    (drawn_of fifth kind.capacities common)
    (stores_from (seed_after last 2) kind.stores) (ends_from last kind.most)

-- the day that the seed gives; each of its tables has a cell for every period
pub record MadeUp (seed : ℕ) (kind : Kind) (r : Tiny) : Type 0 where
  pub is : r ≡ made_up seed kind
  pub few : r.n ≤ 4
  pub demand : r.n ≤ length r.demand
  pub capacity : r.n ≤ length r.capacity
  pub setup : r.n ≤ length r.setup
  pub unit : r.n ≤ length r.unit
  pub holding : r.n ≤ length r.holding
  pub store : r.n ≤ length r.store

-- the day that its first n cells hold
abbrev pub day_in : Tiny → Day
day_in t =
    let n = min t.n 4 in
    day_of (take n t.demand) (take n t.capacity) (take n t.setup) (take n t.unit) (take n t.holding) (take n t.store) t.ends

-- so many made-up days, each from the seed that the one before it leaves
abbrev pub days_from : (count seed : ℕ) → Kind → List Tiny
days_from zero seed kind = []
days_from (suc count) seed kind = let day = made_up seed kind in day ∷ days_from count day.seed kind

abbrev pub days_left : Days → List Tiny
days_left days = days_from days.left days.seed days.kind
