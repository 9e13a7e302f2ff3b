-- Laws of `solve`: by keys in cells, from cleared slots, the loops give what the greedy rule gives, which finds a plan where no period is short.
-- Main statements: `served`, `solved`. Assumes nothing.
use Rattle.std.proofs.Common.{◌≡◌, refl, sym, ap, ◌∙◌, subst, Option, Some, None, IsSome, List, [], ℕ, ◌<◌, arith, drop}
use Rattle.std.proofs.lemmas.Option.{none-some}
use Rattle.day.specs.Sums.{at}
use Rattle.day.specs.Outcome.{Memory, memory_of, cleared, Cleared}
use Rattle.theory.specs.Model.{Model}
use Rattle.theory.specs.Problem.{Problem, periods, model_of, model_rising, model_unlimited, supplied_covered}
use Rattle.theory.specs.Greedy.{key_of, greedy_to, greedy_to_same}
use Rattle.theory.specs.FreeSetups.{key}
use Rattle.theory.specs.Batches.{Filled, greedy}
use Rattle.theory.proofs.Batches.{greedy_covered, cleared_fresh}
use Rattle.greedy.specs.Keys.{Keyed}
use Rattle.greedy.specs.Search.{Told}
use Rattle.free.specs.Solved.{Solvable, Solved}

-- what a call tells where there is something to find
told_found : (o : Option (List ℕ)) (g slots : List ℕ) (r : Option (Unit {0})) → o ≡ Some g → Told r o slots → o ≡ Some slots
told_found o g slots (Some _) e t = t
told_found o g slots None e t = absurd (none-some g (sym t ∙ e))

told_some : (o : Option (List ℕ)) (g slots : List ℕ) (r : Option (Unit {0})) → o ≡ Some g → Told r o slots → IsSome r
told_some o g slots (Some _) e t = refl
told_some o g slots None e t = absurd (none-some g (sym t ∙ e))

-- What the steps of `solve` leave: keys in the cost cells, slots cleared, and the rule's amounts, which it finds.
module _ (p : Problem) (m : Memory) (ok : Solvable p m) where
  abbrev n : ℕ
  n = periods p

  abbrev M : Model
  M = model_of p

  -- the rule finds a plan
  finds : (g : List ℕ) × (greedy M n (at p.demand) (cleared n m.slots) ≡ Some g) × Filled M n (cleared n m.slots) g
  finds =
      greedy_covered M (model_rising p) (model_unlimited p) n ok.unpaid (cleared n m.slots) (cleared_fresh n m.slots ok.room)
      (at p.demand) (λ k l. refl) (supplied_covered p ok.supplied)

  -- the keys in the cells are the model's
  cells_key : (costs : List ℕ) → Keyed p.unit p.holding m.costs costs → (k : ℕ) → k < n → at costs k ≡ key M n k
  cells_key costs keyed k l =
      keyed.keys k (omega (arith, ok.units)) ∙ ap (λ (size : ℕ). key_of (at p.unit) (at p.holding) size k) ok.units

  -- so the rule by the cells is the rule
  by_cells : (costs slots : List ℕ) → Keyed p.unit p.holding m.costs costs → Cleared n m.slots slots
      → greedy_to (at costs) (at p.capacity) (at p.demand) n slots ≡ greedy M n (at p.demand) (cleared n m.slots)
  unfolding greedy
  by_cells costs slots keyed clear =
      ap (greedy_to (at costs) (at p.capacity) (at p.demand) n) clear
      ∙ greedy_to_same (at costs) (key M n) (at p.capacity) n (cells_key costs keyed) (at p.demand) n (omega arith) (cleared n m.slots)

  module _ (costs slots slots' : List ℕ) (r : Option (Unit {0})) (keyed : Keyed p.unit p.holding m.costs costs) (clear : Cleared n m.slots slots)
      (told : Told r (greedy_to (at costs) (at p.capacity) (at p.demand) n slots) slots') where
    told_of : Told r (greedy M n (at p.demand) (cleared n m.slots)) slots'
    told_of = subst (λ (o : Option (List ℕ)). Told r o slots') (by_cells costs slots keyed clear) told

    pub served : IsSome r
    served = told_some _ finds.0 slots' r finds.1 told_of

    pub solved : Solved p m (memory_of costs [] slots')
    solved = record {
      slots = told_found _ finds.0 slots' r finds.1 told_of;
      costs = subst (λ (k : ℕ). drop k costs ≡ drop k m.costs) ok.units keyed.rest;
    }
