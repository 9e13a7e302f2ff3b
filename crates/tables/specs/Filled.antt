-- Six lent tables whose first cells take the numbers of a day's periods, one after the other; later cells keep what they held.
-- Main definitions: `Cells`, `shortest`, `with_first`, `with_numbers`, `first_of`, `FrontFilled`. Main statements: `cells_enough`, room as test 6 asks for it;
-- `filled_more`, a turn of a loop that fills; `front_filled`, one table cell by cell. Assumes nothing.
use Rattle.std.specs.Prelude.{◌≡◌, refl, List, [], ◌∷◌, ◌++◌, ℕ, zero, suc, ◌+◌, ◌≤◌, ◌<◌, min, length, set, take, drop}
use Rattle.std.proofs.Common.{ap, ◌∙◌, le_of_suc-le-suc, add-one, arith, take_at, drop_at}
use Rattle.std.proofs.Math.ListN.{get_or-append}
use Rattle.day.specs.Sums.{at, list_of, at-list_of, length-list_of}
use Rattle.day.specs.declared.Ends.{Ends}
use Rattle.day.specs.declared.Entries.{Entries}
use Rattle.day.specs.Day.{Day, day_of, tables_of}

-- each table has at least n cells
pub record Cells (n : ℕ) (tables : Day) : Type 0 where
  pub demand : n ≤ length tables.demand
  pub capacity : n ≤ length tables.capacity
  pub setup : n ≤ length tables.setup
  pub unit : n ≤ length tables.unit
  pub holding : n ≤ length tables.holding
  pub store : n ≤ length tables.store

-- how many cells each table has at least
abbrev pub shortest : Day → ℕ
shortest tables =
    min (length tables.demand)
    (min (length tables.capacity)
    (min (length tables.setup) (min (length tables.unit) (min (length tables.holding) (length tables.store)))))

pub cells_enough : (n : ℕ) (tables : Day) → n ≤ shortest tables → Cells n tables
cells_enough n tables l = record {
  demand = omega arith;
  capacity = omega arith;
  setup = omega arith;
  unit = omega arith;
  holding = omega arith;
  store = omega arith;
}

-- a table whose first k cells take f 0, .. f (k - 1), and whose later cells stay
abbrev pub with_first : (ℕ → ℕ) → ℕ → List ℕ → List ℕ
with_first f k l = list_of f k ++ drop k l

-- the tables' first n cells as a day, with its ends
abbrev pub first_of : ℕ → Day → Ends → Day
first_of n tables ends =
    day_of
    (take n tables.demand)
    (take n tables.capacity)
    (take n tables.setup)
    (take n tables.unit)
    (take n tables.holding)
    (take n tables.store)
    ends

pub with_front : (f : ℕ → ℕ) (n : ℕ) (l : List ℕ) → take n (with_first f n l) ≡ list_of f n
with_front f n l = take_at (list_of f n) (drop n l) n (length-list_of f n)

-- tables whose first k cells take the numbers p 0, .. p (k - 1)
abbrev pub with_numbers : (ℕ → Entries) → ℕ → Day → Day
with_numbers p k tables =
    tables_of
    (with_first (λ i. (p i).demand) k tables.demand)
    (with_first (λ i. (p i).capacity) k tables.capacity)
    (with_first (λ i. (p i).setup) k tables.setup)
    (with_first (λ i. (p i).unit) k tables.unit)
    (with_first (λ i. (p i).holding) k tables.holding)
    (with_first (λ i. (p i).store) k tables.store)

-- cell k of each table takes a period's number
abbrev pub stored : ℕ → Entries → Day → Day
stored k p tables =
    tables_of
    (set tables.demand k p.demand)
    (set tables.capacity k p.capacity)
    (set tables.setup k p.setup)
    (set tables.unit k p.unit)
    (set tables.holding k p.holding)
    (set tables.store k p.store)

with_length : (f : ℕ → ℕ) (k : ℕ) (l : List ℕ) → k ≤ length l → length (with_first f k l) ≡ length l
with_length f zero l h = refl
with_length f (suc k) [] h = absurd (omega arith)
with_length f (suc k) (x ∷ l) h = ap suc (with_length (λ j. f (suc j)) k l (le_of_suc-le-suc h))

-- one cell more
with_more : (f : ℕ → ℕ) (k : ℕ) (l : List ℕ) → k < length l → set (with_first f k l) k (f k) ≡ with_first f (suc k) l
with_more f k [] h = absurd (omega arith)
with_more f zero (x ∷ l) h = refl
with_more f (suc k) (x ∷ l) h = ap (λ (r : List ℕ). f 0 ∷ r) (with_more (λ j. f (suc j)) k l (le_of_suc-le-suc h))

-- one table whose first n cells hold these numbers, the later cells what they held
pub record FrontFilled (n : ℕ) (number : ℕ → ℕ) (before after : List ℕ) : Type 0 where
  pub entry : (k : ℕ) → k < n → at after k ≡ number k
  pub rest : drop n after ≡ drop n before
  pub size : length after ≡ length before

pub front_filled : (n : ℕ) (f : ℕ → ℕ) (before : List ℕ) → n ≤ length before → FrontFilled n f before (with_first f n before)
front_filled n f before l = record {
  entry = λ k lt. get_or-append (list_of f n) (drop n before) 0 k (rw length-list_of lt) ∙ at-list_of f n k lt;
  rest = drop_at (list_of f n) (drop n before) n (length-list_of f n);
  size = with_length f n before l;
}

-- each table is as long as before
pub record SameCells (before after : Day) : Type 0 where
  pub demand : length after.demand ≡ length before.demand
  pub capacity : length after.capacity ≡ length before.capacity
  pub setup : length after.setup ≡ length before.setup
  pub unit : length after.unit ≡ length before.unit
  pub holding : length after.holding ≡ length before.holding
  pub store : length after.store ≡ length before.store

same_cells : (p : ℕ → Entries) (k : ℕ) (before after : Day) → after ≡ with_numbers p k before → Cells k before → SameCells before after
same_cells p k before after e w =
    rw e
    (record {
      demand = with_length _ k _ w.demand;
      capacity = with_length _ k _ w.capacity;
      setup = with_length _ k _ w.setup;
      unit = with_length _ k _ w.unit;
      holding = with_length _ k _ w.holding;
      store = with_length _ k _ w.store;
    })

-- one period more
numbers_more : (p : ℕ → Entries) (k : ℕ) (before : Day) → Cells (suc k) before
    → stored k (p k) (with_numbers p k before) ≡ with_numbers p (suc k) before
numbers_more p k before w =
    rw (
      with_more (λ i. (p i).demand) k _ w.demand,
      with_more (λ i. (p i).capacity) k _ w.capacity,
      with_more (λ i. (p i).setup) k _ w.setup,
      with_more (λ i. (p i).unit) k _ w.unit,
      with_more (λ i. (p i).holding) k _ w.holding,
      with_more (λ i. (p i).store) k _ w.store,
    )
    refl

-- a loop that fills the tables for n periods has put the first k there
pub record Filled (p : ℕ → Entries) (n : ℕ) (before : Day) (k : ℕ) (after : Day) : Type 0 where
  pub done : k ≤ n
  pub tables : after ≡ with_numbers p k before
  pub cells : SameCells before after

pub filled_none : (p : ℕ → Entries) (n : ℕ) (demand capacity setup unit holding store : List ℕ)
    → let tables = tables_of demand capacity setup unit holding store in Filled p n tables 0 tables
filled_none p n demand capacity setup unit holding store = record {
  done = omega arith;
  tables = refl;
  cells = record { demand = refl; capacity = refl; setup = refl; unit = refl; holding = refl; store = refl };
}

module _ (p : ℕ → Entries) (n : ℕ) (before : Day) (k : ℕ) (after : Day) (w : Filled p n before k after) (l : k < n) (c : Cells n before) where
  -- the cells of period k + 1 are there
  pub cells_here : Cells (k + 1) after
  cells_here = record {
    demand = omega (arith, c.demand, w.cells.demand);
    capacity = omega (arith, c.capacity, w.cells.capacity);
    setup = omega (arith, c.setup, w.cells.setup);
    unit = omega (arith, c.unit, w.cells.unit);
    holding = omega (arith, c.holding, w.cells.holding);
    store = omega (arith, c.store, w.cells.store);
  }

  -- and take its numbers
  pub filled_more : (later : Day) → later ≡ stored k (p k) after → Filled p n before (k + 1) later
  filled_more later put =
      let room : Cells (suc k) before = record {
        demand = omega (arith, c.demand);
        capacity = omega (arith, c.capacity);
        setup = omega (arith, c.setup);
        unit = omega (arith, c.unit);
        holding = omega (arith, c.holding);
        store = omega (arith, c.store);
      } in
      let tables : later ≡ with_numbers p (suc k) before = put ∙ rw w.tables (numbers_more p k before room) in
      rw add-one (record { done = l; tables = tables; cells = same_cells p (suc k) before later tables room })
