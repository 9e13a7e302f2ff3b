-- Laws of the call: what passed tests leave for the work, and what the work leaves is what an accepted call leaves.
-- Assumes nothing.
use Rattle.std.proofs.Common.{◌≡◌, refl, sym, ap, subst, ◌∙◌, List, ◌++◌, ℕ, ◌≤◌, ◌<◌, length, take, drop, replicate, arith}
use Rattle.std.proofs.Common.{length-append, length-drop, length-take-le, drop_at}
use lib.ListN.{get_or-append}
use Rattle.day.specs.declared.Totals.{Totals}
use Rattle.day.specs.Sums.{at}
use Rattle.day.specs.Day.{Day, periods}
use Rattle.day.specs.Plan.{Optimal}
use Rattle.day.specs.Refusals.{unequal, low_store}
use Rattle.day.specs.Tests.{first_two}
use Rattle.day.specs.Outcome.{Memory, memory_of, sizes_of, Cleared, Accepted}
use Rattle.day.specs.Paths.{equal}
use Rattle.path_checks.specs.declared.Needed.{Needed}
use Rattle.checks.specs.Passed.{Admitted, equal_passed}
use Rattle.path_checks.specs.Needed.{NeededBy}
use Rattle.weigher.specs.Verdict.{totals_of}
use Rattle.weigher.specs.Walk.{FeasiblePlan, path_plan}
use Rattle.theory.specs.Problem.{Problem, model_of}
use Rattle.theory.specs.Problem as Problem
use Rattle.theory.specs.Net.{problem_of, periods_is, bounded}
use Rattle.theory.specs.Store.{Loose}
use Rattle.theory.proofs.Store.{loose_supplied}
use Rattle.theory.proofs.Loose.{limits_loose}
use Rattle.theory.proofs.Base.{loose_optimal}
use Rattle.theory.specs.Cut.{optimal_ext}
use Rattle.equal_rows.specs.Rows.{areas}
use Rattle.equal.specs.Solved.{Solvable, PlanFound}

-- a part of k cells at the front, lent
abbrev pub front : ℕ → List ℕ → List ℕ
front k l = take k l

front_length : (k : ℕ) (l : List ℕ) → k ≤ length l → length (front k l) ≡ k
front_length k l h = length-take-le k l h

-- and given back
abbrev pub back : (k : ℕ) (l part : List ℕ) → List ℕ
back k l part = part ++ drop k l

module _ (k : ℕ) (l part : List ℕ) (e : length part ≡ length (front k l)) (h : k ≤ length l) where
  back_length : length (back k l part) ≡ length l
  back_length = omega (arith, length-append part (drop k l), length-drop k l, front_length k l h)

  back_rest : drop k (back k l part) ≡ drop k l
  back_rest = drop_at part (drop k l) k (e ∙ front_length k l h)

  back_cleared : (l' : List ℕ) → Cleared k (back k l part) l' → Cleared k l l'
  back_cleared l' c = c ∙ ap (λ (t : List ℕ). replicate k 0 ++ t) back_rest

module _ (d : Day) (m : Memory) (ok : Admitted equal d (sizes_of m)) (n : ℕ) (is_n : n ≡ periods d) (r : Needed) (asked : NeededBy equal n 0 r) where
  needed : NeededBy equal (periods d) 0 r
  needed = rw is_n at asked

  slots_inside : n ≤ length m.slots
  slots_inside = omega (arith, ok.room.slots)

  -- no store can bind
  loose : Loose d
  loose = limits_loose (unequal d) ok.day ok.own

  costs_inside : r.costs ≤ length m.costs
  costs_inside = omega (arith, needed.costs, ok.room.costs)

  choices_inside : r.choices ≤ length m.choices
  choices_inside = omega (arith, needed.choices, ok.room.choices)

  -- The problem as it was made.
  module _ {p : Problem} (made : p ≡ problem_of d) where
    pub solvable : Solvable p (areas (front r.costs m.costs) (front r.choices m.choices)) (front n m.slots)
    solvable =
        let size = periods_is d in
        rw made
        (record {
          constant = record {
            bounded = bounded d ok.day;
            one = λ k h. equal_passed d (first_two (unequal d) (low_store d) ok.own).0 k (omega arith);
            supplied = loose_supplied d loose ok.supplied;
          };
          sized = record {
            costs = front_length r.costs m.costs costs_inside ∙ needed.costs ∙ ap (λ (k : ℕ). equal.cost_cells k 0) (sym size);
            choices = front_length r.choices m.choices choices_inside ∙ needed.choices ∙ ap (λ (k : ℕ). equal.choice_cells k 0) (sym size);
          };
          each = front_length n m.slots slots_inside ∙ (is_n ∙ sym size);
        })

    module _ (slots : List ℕ) (size : length slots ≡ length (front n m.slots)) (found : PlanFound p slots) where
      abbrev slots' : List ℕ
      slots' = back n m.slots slots

      same : (k : ℕ) → k < Problem.periods (problem_of d) → at slots k ≡ at slots' k
      same k h = sym (get_or-append slots _ 0 k (omega (arith, size, front_length n m.slots slots_inside, periods_is d)))

      found_net : PlanFound (problem_of d) slots
      found_net = subst (λ (q : Problem). PlanFound q slots) made found

      slots_optimal : Optimal d (at slots')
      slots_optimal =
          let q = problem_of d in
          (loose_optimal d loose (at slots')).1
          (optimal_ext (model_of q) (Problem.periods q) (Problem.total q) (at slots) (at slots') same found_net)

      pub slots_feasible : FeasiblePlan d slots'
      slots_feasible = path_plan ok (back_length n m.slots slots size slots_inside) slots_optimal.feasible

      -- The front parts as the work leaves them, and then cleared, are as an accepted call leaves its memory.
      pub work_accepted : (t : Totals) (costs choices costs' choices' : List ℕ)
          → length costs ≡ length (front r.costs m.costs)
          → length choices ≡ length (front r.choices m.choices)
          → Cleared r.costs (back r.costs m.costs costs) costs'
          → Cleared r.choices (back r.choices m.choices choices) choices'
          → t ≡ totals_of d (at slots')
          → Accepted equal d t m (memory_of costs' choices' slots')
      work_accepted t costs choices costs' choices' e f clear clear' is =
          record {
            plan = slots_optimal;
            counts = rw is refl;
            size = back_length n m.slots slots size slots_inside;
            rest = subst (λ (k : ℕ). drop k slots' ≡ drop k m.slots) is_n (back_rest n m.slots slots size slots_inside);
            costs = rw needed.costs at (back_cleared r.costs m.costs costs e costs_inside costs' clear);
            choices = rw needed.choices at (back_cleared r.choices m.choices choices f choices_inside choices' clear');
          }
