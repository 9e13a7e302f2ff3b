-- Without capacity nothing is made, and else the last row is the plan.
use Rattle.std.proofs.Common.{◌≡◌, sym, ap, ◌∙◌, subst, List, ℕ, ◌+◌, ◌-◌, ◌*◌, length, replicate, arith, rules}
use Rattle.std.proofs.lemmas.List.{get_or-replicate}
use borrow.Rule.Slice.PartMut.{mid_of}
use Rattle.day.specs.Sums.{at}
use Rattle.theory.specs.declared.Problem.{Problem as LentProblem}
use Rattle.theory.specs.Problem.{Problem, problem_with, lent_problem, periods, model_of}
use Rattle.theory.specs.Recursion.{leads_optimal}
use Rattle.equal_runs.specs.Run.{lent_constant}
use Rattle.equal_rows.specs.Rows.{Areas, solution_of}
use Rattle.equal_rows.specs.Best.{PlanRow}
use Rattle.equal_rows.specs.Consider.{ConstantCapacity}
use Rattle.equal.specs.Solved.{PlanFound, constant_is, idle_found}
use Rattle.equal.proofs.solve.Goals as goal

-- cleared slots make nothing
idle : (p : Problem) (slots : List ℕ) → ConstantCapacity p (at p.capacity 0) → at p.capacity 0 ≡ 0 → slots ≡ replicate (periods p) 0 → PlanFound p slots
idle p slots constant e clear =
    idle_found p (rw e at constant) slots (λ k h. ap (λ (l : List ℕ). at l k) clear ∙ get_or-replicate (periods p) k 0 0 h)

module _ (problem : LentProblem) (c : ℕ) (constant : ConstantCapacity (lent_problem problem) c) where
  abbrev p : Problem
  p = lent_problem problem

  abbrev n : ℕ
  n = periods p

  -- that of the one capacity, on which the rows run
  abbrev q : Problem
  q = lent_constant problem c

  same : p ≡ q
  same = ap (λ (l : List ℕ). problem_with p.demand l p.setup p.unit p.holding) (constant_is p c constant)

  by_one : ConstantCapacity q c
  by_one = rw same at constant

  -- the last row is the plan
  last_row : (a : Areas) (slots : List ℕ) → PlanRow q n a → slots ≡ mid_of (n * n) (n * n + n - n * n) a.choices → PlanFound p slots
  last_row a slots row e =
      let k : n * n + n - n * n ≡ n = omega arith in
      let o : PlanFound q slots = rw (e, k) (leads_optimal (model_of q) n _ (solution_of n a n) row.plan) in
      subst (λ (v : Problem). PlanFound v slots) (sym same) o

pub returns-then-full-eq0 : goal.returns-then-full-eq0
returns-then-full-eq0 c =
    let clear : c.fill.new.self ≡ replicate (length c.args.slots.now) 0 = search rules in
    idle (lent_problem c.args.p) _ c.requires.constant c.if-full-eq0.true (rw c.requires.each at clear)

pub invariant_of-constant-clause-constant : goal.invariant_of-constant-clause-constant
invariant_of-constant-clause-constant c = by_one c.args.p _ c.requires.constant

pub returns : goal.returns
returns c = last_row c.args.p _ c.requires.constant _ _ c.rows.ensures c.copy.ensures
