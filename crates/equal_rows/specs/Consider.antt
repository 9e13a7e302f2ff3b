-- The problems that the equal path is for, and one candidate more for a row. Main statement: `considered`. Assumes nothing.
use Rattle.std.specs.Prelude.{◌≡◌, List, ℕ, zero, suc, ◌+◌, ◌-◌, ◌*◌, ◌≤◌, ◌<◌, length, Option, Some}
use Rattle.std.proofs.Common.{mul-le-mul_left, add-one}
use native.Mathlib.Omega.{arith}
use Rattle.day.specs.Sums.{at}
use Rattle.theory.specs.Model.{Model, cost_to}
use Rattle.theory.specs.Problem.{Problem, periods, demand_to, capacity_to, model_of, Bounded, Supplied, model_rising, model_unlimited, supplied_covered}
use Rattle.theory.specs.Stages.{Solution, Answers}
use Rattle.theory.specs.Reachable.{Covered}
use Rattle.theory.specs.Regeneration.{Fits}
use Rattle.theory.specs.FlorianKlein.{Equal, by_loads}
use Rattle.theory.specs.Loads.{by_load, by_load_answers}
use Rattle.equal_runs.specs.Bounds.{marker, stage_most}
use Rattle.equal_rows.specs.Order.{Sooner}
use Rattle.equal_rows.specs.Rows.{Areas, AreasSized, PlanTold, EarlierKept, CandidateTold, row_of, solution_of}
use Rattle.equal_rows.specs.Best.{PlanRow, BestSoFar, old_stays, new_goes, kept_less, kept_trans, best_kept, row_found}

-- one capacity throughout, and enough of it
pub record ConstantCapacity (p : Problem) (c : ℕ) : Type 0 where
  pub bounded : Bounded p
  pub one : (k : ℕ) → k < periods p → at p.capacity k ≡ c
  pub supplied : Supplied p

-- what `keep` and `settle` ask for row m
pub record Keepable (n m : ℕ) (a : Areas) : Type 0 where
  pub few : n ≤ 96
  pub inside : m ≤ n
  pub sized : AreasSized n a

-- the amounts are in row m, at the cost v; the rows before it are as they were
pub record RowStored (n m v : ℕ) (plan : List ℕ) (old new : Areas) : Type 0 where
  pub kept : EarlierKept n m old new
  pub cost : at new.costs m ≡ v
  pub row : row_of n new m ≡ plan

-- of the amounts at the cost v and those of row m the first are kept
pub data RowSettled (n m v : ℕ) (plan : List ℕ) (old new : Areas) : Type 0 where
  stays : Sooner m (at old.costs m) (at (row_of n old m)) v (at plan) → new ≡ old → RowSettled n m v plan old new
  goes : Sooner m v (at plan) (at old.costs m) (at (row_of n old m)) → RowStored n m v plan old new → RowSettled n m v plan old new

-- what `consider` asks: row l is found, the candidates before it are tried for row m, and `left` is to be made after it
pub record Considerable (p : Problem) (c l m left : ℕ) (a : Areas) : Type 0 where
  pub before : l < m
  pub inside : m ≤ periods p
  pub rest : left ≡ demand_to p m - demand_to p l
  pub sized : AreasSized (periods p) a
  pub row : PlanRow p l a
  pub best : BestSoFar p c m l a

-- the candidates before i were tried for row m
pub record Considered (p : Problem) (c m i : ℕ) (old new : Areas) : Type 0 where
  pub kept : EarlierKept (periods p) m old new
  pub best : BestSoFar p c m i new

-- what `row` asks: the rows before row m are found, and `need` is the demand of m periods
pub record RowsBefore (p : Problem) (m need : ℕ) (a : Areas) : Type 0 where
  pub some : 0 < m
  pub inside : m ≤ periods p
  pub demanded : need ≡ demand_to p m
  pub sized : AreasSized (periods p) a
  pub rows : (k : ℕ) → k < m → PlanRow p k a

-- row m is found; the rows before it are as they were
pub record RowFound (p : Problem) (m : ℕ) (old new : Areas) : Type 0 where
  pub kept : EarlierKept (periods p) m old new
  pub row : PlanRow p m new

-- what `rows` asks
pub record RowsWanted (p : Problem) (a : Areas) (slots : List ℕ) : Type 0 where
  pub sized : AreasSized (periods p) a
  pub each : length slots ≡ periods p

module _ (p : Problem) (c : ℕ) (constant : ConstantCapacity p c) where
  abbrev M : Model
  M = model_of p

  abbrev n : ℕ
  n = periods p

  equal_to : (m : ℕ) → m ≤ n → Equal M c m
  equal_to m h k l = constant.one k (omega arith)

  covered_to : (m : ℕ) → m ≤ n → Covered M m
  covered_to m h j l = supplied_covered p constant.supplied j (omega arith)

  capacity_to_lem : (m : ℕ) → m ≤ n → capacity_to p m ≡ m * c
  capacity_to_lem zero h = omega arith
  capacity_to_lem (suc m) h = omega (arith, capacity_to_lem m (omega arith), constant.one m h)

  -- no interval has more full loads than there are periods
  pub need_low : (m : ℕ) → m ≤ n → demand_to p m ≤ c * n
  need_low zero h = omega arith
  need_low (suc m) h = omega (arith, constant.supplied m h, capacity_to_lem (suc m) h, mul-le-mul_left c h)

  module _ (room : 0 < c) (l m left v : ℕ) (old new : Areas) (plan : List ℕ) (asked : Considerable p c l m left old)
      (found : CandidateTold p c l left (m - l) old v new plan) where
    rows : ℕ → Option Solution
    rows k = Some (solution_of n old k)

    abbrev Candidates : ℕ → (ℕ → ℕ) → Type 0
    Candidates l = Fits M (by_loads M c l m) m l

    answers : Answers (Candidates l) (λ x. cost_to M x m) m (by_load M c rows m l)
    unfolding rows
    answers =
        by_load_answers M (model_rising p) (model_unlimited p) c room rows m l asked.before (equal_to m asked.inside) asked.row.plan

    told : PlanTold (m * stage_most) v plan (by_load M c rows m l)
    unfolding rows
    told =
        let before = asked.before in
        let e : l + (m - l) ≡ m = omega arith in
        rw (e, asked.rest) at found.told

    few : m * stage_most < marker
    few = omega (arith, asked.inside, constant.bounded.few)

    window : m * n + m ≤ n * n + n
    window = omega (arith, asked.inside, mul-le-mul_left n asked.inside)

    front : EarlierKept n m old new
    front = kept_less (n + 1) (n * n + n) m (m * n) (omega (arith, asked.inside)) (omega (arith, window)) found.kept

    still : BestSoFar p c m l new
    still = best_kept p m (n + 1) (n * n + n) old new found.kept (omega (arith, asked.inside)) window c l asked.best

    pub considered : (last : Areas) → RowSettled n m v plan new last → Considered p c m (l + 1) old last
    considered last (stays s e) =
        rw (add-one l, e)
        (record {
          kept = front;
          best = record {
            first = still.first;
            answers = old_stays Candidates (λ x. cost_to M x m) m l (m * stage_most) (at new.costs m) v (row_of n new m) plan few
                still.first (by_load M c rows m l) still.answers answers still.told told s;
            told = still.told;
          };
        })
    considered last (goes s stored) =
        let e = stored.cost in
        let f = stored.row in
        rw (add-one l)
        (record {
          kept = kept_trans front stored.kept;
          best = record {
            first = by_load M c rows m l;
            answers = new_goes Candidates (λ x. cost_to M x m) m l (m * stage_most) (at new.costs m) v (row_of n new m) plan few
                still.first (by_load M c rows m l) still.answers answers still.told told s;
            told = rw (e, f) told;
          };
        })

  -- All candidates for row m are tried.
  pub all_considered : (m : ℕ) → 0 < m → m ≤ n → (old new : Areas) → Considered p c m m old new → RowFound p m old new
  all_considered m pos h old new a =
      record { kept = a.kept; row = row_found p c m new pos (equal_to m h) (covered_to m h) a.best }
