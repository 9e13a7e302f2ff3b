-- What lent tables say by their types: every entry has at most 16 or 32 bits. Main definition: `Widths`. Assumes nothing.
use Rattle.std.specs.Prelude.{List, ℕ}
use Rattle.std.proofs.Common.{Fits, w16, w32}
use Rattle.day.specs.Sums.{at}

-- r, c, b, p, h and s are the tables of a day
pub record Widths (r c b p h s : List ℕ) : Type 0 where
  pub demand : (k : ℕ) → Fits w16 (at r k)
  pub capacity : (k : ℕ) → Fits w16 (at c k)
  pub setup : (k : ℕ) → Fits w32 (at b k)
  pub unit : (k : ℕ) → Fits w32 (at p k)
  pub holding : (k : ℕ) → Fits w32 (at h k)
  pub store : (k : ℕ) → Fits w16 (at s k)
