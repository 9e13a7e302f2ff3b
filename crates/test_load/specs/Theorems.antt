-- What an accepted test load has left, cell by cell: `load_gives`; and that such a day is within the limits: `load_within`. Assumes nothing.
use Rattle.std.specs.Prelude.{◌≡◌, false, ℕ, zero, suc, ◌*◌, ◌≤◌, ◌<◌, None, Ok}
use Rattle.std.proofs.Common.{sym, ap, subst, arith, le-ltb}
use Rattle.day.specs.declared.Refusal.TheVariants.{LowStore}
use Rattle.day.specs.Sums.{sum_to, list_of, at-list_of, length-list_of, sum_ext}
use Rattle.day.specs.Find.{nothing_found}
use Rattle.day.specs.Day.{Day, no_ends, tables_of, periods, max_store, max_periods, max_total, required}
use Rattle.day.specs.Refusals.{refuse_at, first, day_tests, tight, low_store}
use Rattle.checks.specs.Passed.{Within, DayLimits, day_passes}
use Rattle.tables.specs.Filled.{first_of, with_front, FrontFilled, front_filled}
use Rattle.test_load.specs.Draws as draws
use Rattle.test_load.specs.Load.{Loading}
use Rattle.test_load.specs.Periods.{load_passed}

-- each table's first n cells hold what is drawn for each period, the store limits 65,535, and later cells what they held
pub record Loaded (seed n : ℕ) (before after : Day) : Type 0 where
  pub demand : FrontFilled n (draws.need seed) before.demand after.demand
  pub capacity : FrontFilled n (draws.capacity seed) before.capacity after.capacity
  pub setup : FrontFilled n (draws.start seed) before.setup after.setup
  pub unit : FrontFilled n (draws.unit seed) before.unit after.unit
  pub holding : FrontFilled n (draws.upkeep seed) before.holding after.holding
  pub store : FrontFilled n (λ _. max_store) before.store after.store

pub load_gives : (seed n : ℕ) (before after : Day) → Loading seed n before (Ok tt) after → Loaded seed n before after
load_gives seed n before after w =
    let c = (load_passed n before w.0).cells in
    rw w.1
    (record {
      demand = front_filled n (draws.need seed) before.demand c.demand;
      capacity = front_filled n (draws.capacity seed) before.capacity c.capacity;
      setup = front_filled n (draws.start seed) before.setup c.setup;
      unit = front_filled n (draws.unit seed) before.unit c.unit;
      holding = front_filled n (draws.upkeep seed) before.holding c.holding;
      store = front_filled n (λ _. max_store) before.store c.store;
    })

-- the day that the draws make, of n periods: A and Z are 0
abbrev load_day : (seed n : ℕ) → Day
load_day seed n =
    tables_of
    (list_of (draws.need seed) n)
    (list_of (draws.capacity seed) n)
    (list_of (draws.start seed) n)
    (list_of (draws.unit seed) n)
    (list_of (draws.upkeep seed) n)
    (list_of (λ _. max_store) n)

within : (seed n k : ℕ) → k < n → Within (load_day seed n) k
within seed n k l = record {
  demand = rw (at-list_of (draws.need seed) n k l) (omega arith);
  capacity = rw (at-list_of (draws.capacity seed) n k l) (omega arith);
  setup = rw (at-list_of (draws.start seed) n k l) (omega arith);
  unit = rw (at-list_of (draws.unit seed) n k l) (omega arith);
  holding = rw (at-list_of (draws.upkeep seed) n k l) (omega arith);
  store = rw (at-list_of (λ _. max_store) n k l) (omega arith);
}

needs_low : (seed n : ℕ) → sum_to (draws.need seed) n ≤ 40 * n
needs_low seed zero = omega arith
needs_low seed (suc n) = omega (arith, needs_low seed n)

required_low : (seed n : ℕ) → n ≤ max_periods → required (load_day seed n) ≤ 3840
required_low seed n few =
    let same = sum_ext _ (draws.need seed) n (λ k l. at-list_of (draws.need seed) n k l) in
    rw (length-list_of (draws.need seed) n) (omega (arith, needs_low seed n, same))

limits : (seed n : ℕ) → 1 ≤ n → n ≤ max_periods → DayLimits max_total (load_day seed n)
limits seed n above few =
    let size = length-list_of (draws.need seed) n in
    record {
      limits = record {
        nonempty = rw size above;
        few = rw size few;
        lengths = record {
          capacity = simp length-list_of;
          setup = simp length-list_of;
          unit = simp length-list_of;
          holding = simp length-list_of;
          store = simp length-list_of;
        };
        within = λ k l. within seed n k (rw size at l);
      };
      small = omega (arith, required_low seed n few);
      used = omega arith;
    }

stores : (seed n : ℕ) → n ≤ max_periods → low_store (load_day seed n) ≡ None
stores seed n few =
    let d = load_day seed n in
    ap (refuse_at LowStore) (nothing_found (tight d) (periods d) (λ k l. high k (rw (length-list_of (draws.need seed) n) at l)))
  where
    high : (k : ℕ) → k < n → tight (load_day seed n) k ≡ false
    high k l = rw (at-list_of (λ _. max_store) n k l) (le-ltb max_store (required (load_day seed n)) (omega (arith, required_low seed n few)))

-- the day in the tables' first n cells passes 1 to 4, 14 and 16
pub load_within : (seed n : ℕ) (before after : Day) → Loading seed n before (Ok tt) after
    → let d = first_of n after no_ends in (first (day_tests max_total d) ≡ None) × (low_store d ≡ None)
load_within seed n before after w =
    let c = load_passed n before w.0 in
    let front : first_of n after no_ends ≡ load_day seed n = rw w.1 (simp with_front) in
    subst
    (λ (d : Day). (first (day_tests max_total d) ≡ None) × (low_store d ≡ None))
    (sym front)
    (day_passes (load_day seed n) (limits seed n c.nonempty c.few), stores seed n c.few)
