-- The search for a row of Wagner and Whitin (report, section 3): the candidates l for the last lot of the first m + 1 periods, from m down
-- to 0. Candidate l makes in period l + 1 all that is demanded from there to period m + 1.
-- What the areas hold once every row is found: cell m of the choice area says where the last lot of row m begins.
-- Main definitions: `Least`, `CheapestOf`, `LastLotOf`, `RowsWritten`. Assumes nothing.
use Rattle.std.specs.Prelude.{◌≡◌, List, ℕ, suc, ◌+◌, ◌*◌, ◌≤◌, ◌<◌, length, drop}
use Rattle.std.proofs.Math.Decide.{dec_le}
use Rattle.day.specs.Sums.{at, list_of}
use Rattle.day.specs.Plan.{making}
use Rattle.theory.specs.Basics.{pick}
use Rattle.theory.specs.Problem.{Problem, model_of, Bounded, periods}
use Rattle.theory.specs.Uncapped.{price}
use Rattle.theory.specs.Carried.{carried_to}
use Rattle.theory.specs.WagnerWhitin.{Chosen, wagner_whitin}
use Rattle.uncapped_rows.specs.declared.LastLot.{LastLot}
use Rattle.uncapped_rows.specs.declared.Holding.{Holding}
use Rattle.uncapped_rows.specs.Bounds.{max_making, LowCosts}
use Rattle.uncapped_rows.specs.Lots.{Begins, LastLots}

-- candidate l at its price, where it is no dearer than the best of the later ones: of equals the earliest
unfoldable pub better : LastLot → (l price : ℕ) → LastLot
better best l price = pick (dec_le price best.cost) (record { cost = price; from = l }) best

-- what it costs to come to l and to make a lot there
abbrev pub lot_cost : (setup unit : List ℕ) (costs : ℕ → ℕ) (l made : ℕ) → ℕ
lot_cost setup unit costs l made = costs l + making (at setup l) (at unit l) made

-- upkeep summed one period further down, in which r is demanded and a unit left costs h
abbrev pub held_through : Holding → (r h : ℕ) → Holding
held_through s r h = record { left = s.left + r; held = s.held + h * s.left }

-- what a unit costs at least that is carried into each period
abbrev pub carried_of : (unit holding : List ℕ) → List ℕ
carried_of unit holding = list_of (carried_to (at unit) (at holding)) (length unit)

-- r is the first of l .. m at which f is least, with its value
pub record Least (f : ℕ → ℕ) (m l : ℕ) (r : LastLot) : Type 0 where
  pub after : l ≤ r.from
  pub before : r.from ≤ m
  pub tells : r.cost ≡ f r.from
  pub least : (j : ℕ) → l ≤ j → j ≤ m → r.cost ≤ f j
  pub first : (j : ℕ) → l ≤ j → j < r.from → r.cost < f j

-- the cheapest of the candidates l .. m for the last lot of row m + 1
abbrev pub CheapestOf : (p : Problem) (costs : ℕ → ℕ) (m l : ℕ) → LastLot → Type 0
CheapestOf p costs m l r = Least (price (model_of p) costs (suc m)) m l r

-- no row up to m costs more than to come to it from an earlier one
abbrev pub LeastCosts : Problem → (ℕ → ℕ) → ℕ → Type 0
LeastCosts p costs m = (l : ℕ) → l ≤ m → (j : ℕ) → j < l → costs l ≤ price (model_of p) costs l j

-- what the search for row m + 1 asks; and what the rest of it asks, once its last candidate is tried
pub record NextRowReady (p : Problem) (costs : List ℕ) (m : ℕ) : Type 0 where
  pub bounded : Bounded p
  pub inside : m < periods p
  pub cells : m < length costs
  pub low : LowCosts (at costs) m
  pub least : LeastCosts p (at costs) m

pub record RestReady (p : Problem) (costs : List ℕ) (m : ℕ) (last : LastLot) : Type 0 where
  pub ready : NextRowReady p costs m
  pub tried : CheapestOf p (at costs) m m last

-- the last lot of row m + 1, given the costs of the rows before it
pub record LastLotOf (p : Problem) (costs : ℕ → ℕ) (m : ℕ) (r : LastLot) : Type 0 where
  pub chosen : Chosen (model_of p) costs m r.cost r.from
  pub inside : r.from ≤ m
  pub low : r.cost ≤ costs m + max_making
  pub least : (j : ℕ) → j ≤ m → r.cost ≤ price (model_of p) costs (suc m) j

-- what the rows ask
pub record FillReady (p : Problem) (costs choices : List ℕ) : Type 0 where
  pub bounded : Bounded p
  pub cost_cells : periods p < length costs
  pub choice_cells : periods p < length choices

-- what they leave: the choices tell the rows; cells past n are as they were
pub record RowsWritten (p : Problem) (costs₀ choices₀ costs choices : List ℕ) : Type 0 where
  pub begins : Begins (at choices) (periods p)
  pub lots : LastLots p.demand (λ m. (wagner_whitin (model_of p) m).plan) (at choices) (periods p)
  pub costs_rest : drop (periods p + 1) costs ≡ drop (periods p + 1) costs₀
  pub choices_rest : drop (periods p + 1) choices ≡ drop (periods p + 1) choices₀
