-- The areas of the equal path: the rows in front, the work on an interval past them; and what the numbers of an interval, of a row and of both mean.
-- Main definitions: `Areas`, `PlanTold`, `row_of`. Assumes nothing.
use Rattle.std.specs.Prelude.{◌≡◌, List, ◌++◌, ℕ, ◌+◌, ◌*◌, ◌/◌, ◌%◌, ◌≤◌, min, length, take, drop, Option, None, Some}
use Rattle.std.proofs.Common.{ap, ◌∙◌, arith}
use Rattle.day.specs.Sums.{at}
use Rattle.theory.specs.Model.{Model}
use Rattle.theory.specs.Problem.{Problem, periods, model_of}
use Rattle.theory.specs.Stages.{Solution}
use Rattle.theory.specs.Regeneration.{glue}
use Rattle.theory.specs.Loads.{loads_to}
use Rattle.equal_runs.specs.declared.LoadSizes.{LoadSizes}
use Rattle.equal_runs.specs.Bounds.{stage_most}
use Rattle.equal_runs.specs.States.{index_of}
use Rattle.equal_runs.specs.Told.{CostTold}
use Rattle.equal_runs.specs.Run.{Ran}
use Rattle.equal_rows.specs.declared.Ending.{Ending}

-- the fractional load of an interval that makes W in all, and the index of the state that it ends in
pub record LoadsSplit (W c : ℕ) (e : Ending) : Type 0 where
  pub part : e.part ≡ W % c
  pub ends : e.top ≡ index_of (W / c) (min 1 (W % c))

abbrev pub load_sizes : (full part : ℕ) → LoadSizes
load_sizes full part = record { full = full; part = part }

-- the amounts are o's, where there is one
abbrev pub AmountsTold : List ℕ → Option Solution → Type 0
AmountsTold plan None = Unit {0}
AmountsTold plan (Some f) = plan ≡ f.plan

-- v and the amounts are what o costs and makes, or v marks that there is none
pub record PlanTold (B v : ℕ) (plan : List ℕ) (o : Option Solution) : Type 0 where
  pub cost : CostTold B v o
  pub amounts : AmountsTold plan o

-- the interval from l that makes W in `count` periods
abbrev pub interval_of : Model → (c l W count : ℕ) → Option Solution
interval_of M c l W count = loads_to M l c (W % c) count (W / c) (min 1 (W % c))

-- the cost area and the choice area
pub record Areas : Type 0 where
  pub costs : List ℕ
  pub choices : List ℕ

abbrev pub areas : (costs choices : List ℕ) → Areas
areas costs choices = record { costs = costs; choices = choices }

-- as long as the equal path needs them for n periods
pub record AreasSized (n : ℕ) (a : Areas) : Type 0 where
  pub costs : length a.costs ≡ 6 * (n + 1)
  pub choices : length a.choices ≡ 4 * ((n + 1) * (n + 1))

pub sized_as : {n : ℕ} {a b : Areas} → AreasSized n a
    → length b.costs ≡ length a.costs → length b.choices ≡ length a.choices → AreasSized n b
sized_as s e f = record { costs = e ∙ s.costs; choices = f ∙ s.choices }

-- the first i cost cells and j choice cells are as they were
pub record FrontKept (i j : ℕ) (old new : Areas) : Type 0 where
  pub costs : take i new.costs ≡ take i old.costs
  pub choices : take j new.choices ≡ take j old.choices

-- all rows of n periods are as they were; those before row m are
abbrev pub RowsKept : ℕ → (old new : Areas) → Type 0
RowsKept n = FrontKept (n + 1) (n * n + n)

abbrev pub EarlierKept : (n m : ℕ) (old new : Areas) → Type 0
EarlierKept n m = FrontKept m (m * n)

-- what `lay` asks: the intervals of `count` periods from l on are in the tables, and their states fit past the rows
pub record Layable (p : Problem) (l count top : ℕ) (a : Areas) : Type 0 where
  pub inside : l + count ≤ periods p
  pub states : top ≤ 2 * periods p + 1
  pub sized : AreasSized (periods p) a

-- past the rows stand the intervals of `count` periods from l on
pub record Laid (p : Problem) (w : LoadSizes) (l count top : ℕ) (old new : Areas) : Type 0 where
  pub kept : RowsKept (periods p) old new
  pub ran : let n = periods p in Ran (model_of p) l w count top (2 * n + 2) (drop (n + 1) new.costs) (drop (n * n + n) new.choices)

-- what `trial` asks: no more than n loads make W
pub record Tryable (p : Problem) (c l W count : ℕ) (a : Areas) : Type 0 where
  pub inside : l + count ≤ periods p
  pub low : W ≤ c * periods p
  pub sized : AreasSized (periods p) a

-- an interval was tried: its cost and amounts
pub record IntervalTold (p : Problem) (c l W : ℕ) (old : Areas) (r : ℕ) (new : Areas) (plan : List ℕ) : Type 0 where
  pub kept : RowsKept (periods p) old new
  pub told : PlanTold (length plan * stage_most) r plan (interval_of (model_of p) c l W (length plan))

-- the amounts of row m, and the row with its cost
abbrev pub row_of : ℕ → Areas → ℕ → List ℕ
row_of n a m = take m (drop (m * n) a.choices)

abbrev pub solution_of : ℕ → Areas → ℕ → Solution
solution_of n a m = record { cost = at a.costs m; plan = row_of n a m }

-- row l, and after it the interval to the period after which `count` more are past
pub record CandidateTold (p : Problem) (c l W count : ℕ) (old : Areas) (r : ℕ) (new : Areas) (plan : List ℕ) : Type 0 where
  pub kept : RowsKept (periods p) old new
  pub told : PlanTold ((l + count) * stage_most) r plan (glue (Some (solution_of (periods p) old l)) (interval_of (model_of p) c l W count))

-- it costs and makes what the two do together
pub glue_told : (A B v : ℕ) (f : Solution) (plan : List ℕ) (o : Option Solution) → f.cost ≤ A → PlanTold B v plan o
    → PlanTold (A + B) (f.cost + v) (f.plan ++ plan) (glue (Some f) o)
glue_told A B v f plan None h t = record { cost = (omega (arith, t.cost.0), omega (arith, t.cost.1)); amounts = tt }
glue_told A B v f plan (Some g) h t =
    record { cost = (omega (arith, t.cost.0), omega (arith, t.cost.1)); amounts = ap (λ (l : List ℕ). f.plan ++ l) t.amounts }
