-- What the row step asks of the queue in its cells, and what a call leaves there. Main definitions: `QueueFor`, `Entered`, `CellFound`.
-- Assumes nothing.
use Rattle.std.specs.Prelude.{◌≡◌, List, ℕ, ◌+◌, ◌≤◌, ◌<◌, length}
use Rattle.day.specs.Sums.{at}
use Rattle.full_rows.specs.declared.Stage.{Stage}
use Rattle.full_rows.specs.declared.Cell.{Cell}
use Rattle.full_rows.specs.declared.row.Row.{Row}
use Rattle.full_rows.specs.declared.queue.Candidates.{Candidates}
use Rattle.full_rows.specs.Row.{best_of, cell_of}
use Rattle.full_rows.specs.Queue.{Queue, Window}

-- the queue for the total X
abbrev pub QueueFor : Row → ℕ → Candidates → Type 0
QueueFor r X q = Queue r.stage (at r.costs.now) q.cells.now X q.head q.tail

abbrev pub WindowFor : Row → ℕ → Candidates → Type 0
WindowFor r X q = Window r.stage (at r.costs.now) q.cells.now X q.head q.tail

-- Y may enter, and the queue has a cell left
pub record QueueRoom (r : Row) (Y : ℕ) (q : Candidates) : Type 0 where
  pub low : r.stage.low ≤ Y
  pub top : Y ≤ r.stage.top
  pub cell : q.tail < length q.cells.now

-- Y has entered, if it can be reached
pub record Entered (r : Row) (Y : ℕ) (before after : Candidates) : Type 0 where
  pub queue : QueueFor r (Y + 1) after
  pub few : after.tail ≤ before.tail + 1
  pub head : after.head ≡ before.head
  pub kept : (k : ℕ) → k < before.head → at after.cells.now k ≡ at before.cells.now k
  pub size : length after.cells.now ≡ length before.cells.now

-- there are cells for each total that enters
pub record Scratch (s : Stage) (cells : List ℕ) : Type 0 where
  pub more : s.floor < s.top
  pub room : s.top + 1 ≤ length cells

-- the totals below X have entered a queue that began empty, in n cells
pub record Queued (r : Row) (X n : ℕ) (q : Candidates) : Type 0 where
  pub queue : QueueFor r X q
  pub few : q.tail + r.stage.low ≤ X
  pub size : length q.cells.now ≡ n

-- what recursion (5) says of X; the head that is left is a candidate
pub record CellFound (r : Row) (X : ℕ) (before after : Candidates) (cell : Cell) : Type 0 where
  pub from : before.head ≤ after.head
  pub queue : QueueFor r X after
  pub same : (after.cells.now ≡ before.cells.now) × (after.tail ≡ before.tail)
  pub is : cell ≡ cell_of r.stage (best_of r.stage (at r.costs.now) X) X
