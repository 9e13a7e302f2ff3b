-- The queue of candidates by which a row is filled in a number of steps in proportion to the totals before and after it.
-- The candidates for a total X are the totals Y before it from which an amount of at least 1 leads to X. Their prices for X compare as their
-- keys, which do not depend on X. The queue holds totals with rising keys and keeps, for each candidate, one that is no dearer and no earlier;
-- so its head is the cheapest candidate, and of equals the last, which asks for the smallest amount.
-- Main definitions: `Queue` and `Window`. Assumes nothing.
use Rattle.std.specs.Prelude.{List, ℕ, ◌+◌, ◌-◌, ◌*◌, ◌≤◌, ◌<◌}
use Rattle.day.specs.Sums.{at}
use Rattle.full_rows.specs.declared.Stage.{Stage}

-- what the total `top` would cost from Y, without the setup
abbrev pub key_of : Stage → (ℕ → ℕ) → ℕ → ℕ
key_of s row Y = row Y + s.unit * (s.top - Y)

-- Y is below X, and can be reached before the stage
pub record Entry (s : Stage) (X Y : ℕ) : Type 0 where
  pub low : s.low ≤ Y
  pub high : Y ≤ s.high
  pub below : Y < X

-- and the stage can make the difference
pub record Candidate (s : Stage) (X Y : ℕ) : Type 0 where
  pub entry : Entry s X Y
  pub near : X ≤ Y + s.capacity

-- a cell of the queue that is no dearer than Y, and asks for no larger amount
pub record Substitute (key : ℕ → ℕ) (cells : List ℕ) (head tail Y : ℕ) : Type 0 where
  pub place : ℕ
  pub from : head ≤ place
  pub to : place < tail
  pub later : Y ≤ at cells place
  pub cheap : key (at cells place) ≤ key Y

-- the cells from head to tail hold totals below X with rising keys, and answer each candidate for X
pub record Queue (s : Stage) (row : ℕ → ℕ) (cells : List ℕ) (X head tail : ℕ) : Type 0 where
  pub ordered : head ≤ tail
  pub entries : (i : ℕ) → head ≤ i → i < tail → Entry s X (at cells i)
  pub rising : (i j : ℕ) → head ≤ i → i < j → j < tail → key_of s row (at cells i) < key_of s row (at cells j)
  pub substitutes : (Y : ℕ) → Candidate s X Y → Substitute (key_of s row) cells head tail Y

-- and the head is itself a candidate
pub record Window (s : Stage) (row : ℕ → ℕ) (cells : List ℕ) (X head tail : ℕ) : Type 0 where
  pub queue : Queue s row cells X head tail
  pub near : head < tail → X ≤ at cells head + s.capacity

-- the cells from head to r lie below `least`
pub record Dropped (cells : List ℕ) (least head tail r : ℕ) : Type 0 where
  pub from : head ≤ r
  pub to : r ≤ tail
  pub gone : (i : ℕ) → i < r → head ≤ i → at cells i < least

-- r is the first cell that does not
pub record Trimmed (cells : List ℕ) (least head tail r : ℕ) : Type 0 where
  pub passed : Dropped cells least head tail r
  pub stays : r < tail → least ≤ at cells r

-- the cells from r to tail are no cheaper than Y
pub record Dearer (s : Stage) (row : ℕ → ℕ) (cells : List ℕ) (Y head tail r : ℕ) : Type 0 where
  pub from : head ≤ r
  pub to : r ≤ tail
  pub gone : (i : ℕ) → r ≤ i → i < tail → key_of s row Y ≤ key_of s row (at cells i)

-- and those before r are
pub record Outdone (s : Stage) (row : ℕ → ℕ) (cells : List ℕ) (Y head tail r : ℕ) : Type 0 where
  pub passed : Dearer s row cells Y head tail r
  pub stays : (i : ℕ) → head ≤ i → i < r → key_of s row (at cells i) < key_of s row Y
