-- The read-back of the uncapped path: lots are put into the slots from the end, each where the choice of its row says that it begins.
-- Main definition: `ReadBack`. Assumes nothing.
use Rattle.std.specs.Prelude.{◌≡◌, List, ◌++◌, ℕ, suc, ◌≤◌, ◌<◌, length, drop}
use Rattle.day.specs.Sums.{at, sum_to}
use Rattle.day.specs.Day.{max_total}
use Rattle.uncapped_rows.specs.Lots.{lot_of, Begins, LastLots}

-- what putting one lot asks, and leaves: the slots from its period on
pub record LotReady (demand slots : List ℕ) (from last : ℕ) : Type 0 where
  pub order : from ≤ last
  pub inside : last < length demand
  pub room : last < length slots
  pub small : sum_to (at demand) (length demand) ≤ max_total

abbrev pub LotPut : (demand : List ℕ) (from last : ℕ) (before after : List ℕ) → Type 0
LotPut demand from last before after = drop from after ≡ lot_of demand last from ++ drop (suc last) before

-- what the read-back asks, and leaves: the plan of the last row, whatever rows the choices tell
pub record ReadBackReady (demand choices slots : List ℕ) : Type 0 where
  pub cells : length demand < length choices
  pub room : length demand ≤ length slots
  pub small : sum_to (at demand) (length demand) ≤ max_total
  pub begins : Begins (at choices) (length demand)

abbrev pub ReadBack : (demand choices before after : List ℕ) → Type 0
ReadBack demand choices before after =
    let n = length demand in
    (rows : ℕ → List ℕ) → LastLots demand rows (at choices) n → after ≡ rows n ++ drop n before
