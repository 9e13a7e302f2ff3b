-- The rule by which a day without setup cost is planned (report, section 4): every watt-hour in turn, as cheaply as possible.
-- Main definition: `ServedTo`. Assumes nothing.
use Rattle.std.specs.Prelude.{◌≡◌, ◌≢◌, ℕ, zero, suc, ◌+◌, ◌≤◌, ◌<◌, ℤ, pos, ◌-ℤ◌, ◌≤ℤ◌}
use Rattle.day.specs.Sums.{at, sum_to}
use Rattle.day.specs.Day.{Day, periods, net_to}

-- the upkeep spared by making a unit in period k + 1 and not in period 1: it is then not in the charge left after periods 1 to k, for which each of
-- them pays, and the next one as the charge before it
abbrev pub spared : Day → ℕ → ℕ
spared d k = sum_to (λ j. at d.holding j + at d.holding (suc j)) k

-- by this periods compare: unit cost less the upkeep spared; it can lie below zero
abbrev pub signed_cost : Day → ℕ → ℤ
signed_cost d k = pos (at d.unit k) -ℤ pos (spared d k)

-- beside the amounts x, period k + 1 is the cheapest that is not after period i + 1 and has capacity left, the earliest of equals
pub record Cheapest (d : Day) (x : ℕ → ℕ) (i k : ℕ) : Type 0 where
  pub before : k ≤ i
  pub room : x k < at d.capacity k
  pub cheap : (j : ℕ) → j ≤ i → x j < at d.capacity j → signed_cost d k ≤ℤ signed_cost d j
  pub early : (j : ℕ) → j < k → x j < at d.capacity j → ¬ (signed_cost d j ≤ℤ signed_cost d k)

-- the watt-hour after the first t is needed in period i + 1: those that A covers are not counted, and those of Z are the last
pub record NeededIn (d : Day) (t i : ℕ) : Type 0 where
  pub inside : i < periods d
  pub past : net_to d i ≤ t
  pub owed : t < net_to d (suc i)

-- y is x and that watt-hour, made in the period that is cheapest for it
pub record ServedNext (d : Day) (t : ℕ) (x y : ℕ → ℕ) : Type 0 where
  pub need : ℕ
  pub from : ℕ
  pub needed : NeededIn d t need
  pub cheapest : Cheapest d x need from
  pub here : y from ≡ suc (x from)
  pub others : (j : ℕ) → j ≢ from → y j ≡ x j

-- the rule has served t watt-hours by the amounts y
abbrev pub ServedTo : Day → ℕ → (ℕ → ℕ) → Type 0
ServedTo d zero y = (k : ℕ) → y k ≡ 0
ServedTo d (suc t) y = (x : ℕ → ℕ) × ServedTo d t x × ServedNext d t x y
