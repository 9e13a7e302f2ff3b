-- What `solve` asks and gives; the plan of a problem in which nothing can be made.
-- Main definitions: `Solvable`, `PlanFound`; main statements: `idle_found`, `constant_is`. Assumes nothing.
use Rattle.std.specs.Prelude.{◌≡◌, refl, List, ℕ, zero, suc, ◌-◌, ◌*◌, ◌≤◌, ◌<◌, length, replicate}
use Rattle.std.proofs.Common.{sym, ap, ◌∙◌, arith, ext_get_or}
use Rattle.std.proofs.lemmas.List.{length-replicate, get_or-replicate}
use Rattle.day.specs.Sums.{at, sum_to}
use Rattle.theory.specs.Model.{Model, OptimalTo, production, cost_to}
use Rattle.theory.specs.Problem.{Problem, periods, demand_to, total, model_of, supplied_covered}
use Rattle.theory.specs.FlorianKlein.{no_room}
use Rattle.equal_rows.specs.Rows.{Areas, AreasSized}
use Rattle.equal_rows.specs.Consider.{ConstantCapacity}

-- one capacity throughout and enough of it, areas as long as needed, and a slot for each period
pub record Solvable (p : Problem) (a : Areas) (slots : List ℕ) : Type 0 where
  pub constant : ConstantCapacity p (at p.capacity 0)
  pub sized : AreasSized (periods p) a
  pub each : length slots ≡ periods p

-- the amounts are the plan of the problem
abbrev pub PlanFound : Problem → List ℕ → Type 0
PlanFound p plan = OptimalTo (model_of p) (periods p) (total p) (at plan)

-- Such a problem is told by its one capacity.
pub constant_is : (p : Problem) (c : ℕ) → ConstantCapacity p c → p.capacity ≡ replicate (periods p) c
constant_is p c h =
    ext_get_or 0 p.capacity (replicate (periods p) c) (h.bounded.capacities ∙ sym (length-replicate (periods p) c))
    (λ k l.
    let inside : k < periods p = omega (arith, h.bounded.capacities) in
    h.one k inside ∙ sym (get_or-replicate (periods p) k c 0 inside))

module _ (p : Problem) (constant : ConstantCapacity p 0) (plan : List ℕ) (idle : (k : ℕ) → k < periods p → at plan k ≡ 0) where
  abbrev M : Model
  M = model_of p

  abbrev n : ℕ
  n = periods p

  calm : (k : ℕ) → k ≤ n → demand_to p k ≡ 0
  calm = no_room M n constant.one (supplied_covered p constant.supplied)

  sum_idle : (j : ℕ) → j ≤ n → sum_to (at plan) j ≡ 0
  sum_idle zero h = refl
  sum_idle (suc j) h = omega (arith, sum_idle j (omega arith), idle j h)

  cost_idle : (j : ℕ) → j ≤ n → cost_to M (at plan) j ≡ 0
  cost_idle zero h = refl
  cost_idle (suc j) h =
      let e : sum_to (at plan) (suc j) - demand_to p (suc j) ≡ 0 = omega (arith, sum_idle (suc j) h) in
      omega (arith, cost_idle j (omega arith), ap (production M j) (idle j h), ap (λ (v : ℕ). M.holding j * v) e)

  -- No capacity, and so no demand: nothing is made.
  pub idle_found : PlanFound p plan
  idle_found =
      record {
        feasible = record {
          total = sum_idle n (omega arith) ∙ sym (calm n (omega arith));
          within = λ k h. omega (arith, idle k h);
          served = λ k h. omega (arith, calm (suc k) h);
          under = λ k h. omega (arith, sum_idle (suc k) h);
        };
        first = λ y r. record { cheap = omega (arith, cost_idle n (omega arith)); small = λ _ k h _. omega (arith, idle k h) };
      }
