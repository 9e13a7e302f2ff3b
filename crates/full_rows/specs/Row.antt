-- What the row step reads and writes, in the terms of recursion (5) (theory's Full).
-- Main definitions: `RowReady`, what the step asks, and `Stepped`, what it leaves. Assumes nothing.
use Rattle.std.specs.Prelude.{◌≡◌, List, ℕ, ◌+◌, ◌-◌, ◌*◌, ◌≤◌, ◌<◌, length}
use Rattle.day.specs.Sums.{at}
use Rattle.day.specs.Day.{max_periods, max_setup, max_rate, max_total}
use Rattle.theory.specs.Full as Full
use Rattle.theory.specs.Full.{row_price, row_amount, row_cost}
use Rattle.full_rows.specs.declared.Stage.{Stage}
use Rattle.full_rows.specs.declared.Choice.{Choice}
use Rattle.full_rows.specs.declared.Cell.{Cell}

-- the stage of recursion (5) that the struct holds
abbrev pub stage_in : Stage → Full.Stage
stage_in s = record {
  capacity = s.capacity;
  setup = s.setup;
  unit = s.unit;
  holding = s.holding;
  low = s.low;
  high = s.high;
  floor = s.floor;
}

-- the most that a rate on units comes to, that making an amount costs, and that a total costs at the day's end
abbrev pub max_product : ℕ
max_product = max_rate * max_total

abbrev pub max_making : ℕ
max_making = max_setup + max_product

abbrev pub max_cost : ℕ
max_cost = max_periods * (max_making + max_product)

-- what the amount v comes to for the total X
abbrev pub price_of : Stage → (ℕ → ℕ) → ℕ → ℕ → ℕ
price_of s row X v = row_price (stage_in s) row X v

abbrev pub choice_of : Stage → (ℕ → ℕ) → ℕ → ℕ → Choice
choice_of s row X v = record { amount = v; price = price_of s row X v }

-- the smallest of the cheapest
abbrev pub best_of : Stage → (ℕ → ℕ) → ℕ → Choice
best_of s row X = choice_of s row X (row_amount (stage_in s) row X)

-- what is written for the total X where b is its best choice
abbrev pub cell_of : Stage → Choice → ℕ → Cell
cell_of s b X = record { cost = b.price + s.holding * (X - s.floor); amount = b.amount }

-- the choice and the total are small enough for that
pub record Small (s : Stage) (b : Choice) (X : ℕ) : Type 0 where
  pub price : b.price ≤ max_cost + max_making
  pub amount : b.amount ≤ max_total
  pub begun : s.floor ≤ X
  pub total : X ≤ max_total

-- the stage keeps the limits, and each total after it is reached by some amount from one before it
pub record StageBounded (s : Stage) : Type 0 where
  pub setup : s.setup ≤ max_setup
  pub unit : s.unit ≤ max_rate
  pub holding : s.holding ≤ max_rate
  pub some : s.low ≤ s.high
  pub rises : s.low ≤ s.floor
  pub reached : s.top ≤ s.high + s.capacity
  pub total : s.top ≤ max_total

-- the row before it reaches as far as the stage reads, and no cell of it is too dear
pub record Open (s : Stage) (costs : List ℕ) : Type 0 where
  pub bounded : StageBounded s
  pub inside : s.high < length costs
  pub cheap : (Y : ℕ) → s.low ≤ Y → Y ≤ s.high → at costs Y ≤ max_cost

-- X can be reached after the stage
abbrev pub After : Stage → ℕ → Type 0
After s X = (s.floor ≤ X) × (X ≤ s.top)

-- the amount v leads to X from a total that can be reached before it
pub record LeadsTo (s : Stage) (X v : ℕ) : Type 0 where
  pub rest : v + s.low ≤ X
  pub enough : X ≤ v + s.high
  pub under : X ≤ s.top

-- there are cells for the row after and for its choices; for more than one total there is a second row of choices to work in
pub record RowReady (s : Stage) (before after choices : List ℕ) : Type 0 where
  pub opened : Open s before
  pub cost_cells : s.top < length after
  pub choice_cells : s.top < length choices
  pub scratch : s.floor < s.top → 2 * (s.top + 1) ≤ length choices

-- The row after is what recursion (5) says of the row before; choices past it are free.
pub record Stepped (s : Stage) (before after' choices' : List ℕ) : Type 0 where
  pub cost : (X : ℕ) → After s X → at after' X ≡ row_cost (stage_in s) (at before) X
  pub amount : (X : ℕ) → After s X → at choices' X ≡ row_amount (stage_in s) (at before) X
