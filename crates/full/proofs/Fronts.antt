-- The work of the full path, in plain variables: the table in the front parts of both areas, the plan in the front of the slots, the areas cleared.
-- Assumes nothing.
use Rattle.std.proofs.Common.{◌≡◌, refl, sym, ap, subst, ◌∙◌, List, [], ◌++◌, ℕ, ◌≤◌, ◌<◌, arith, length, take, drop, replicate, length-append, length-drop}
use Rattle.std.proofs.Common.{length-take-le, drop_at, append-nil}
use lib.ListN.{get_or-append}
use Rattle.day.specs.declared.Sizes.{Sizes}
use Rattle.day.specs.declared.Totals.{Totals}
use Rattle.day.specs.Sums.{at, length-list_of}
use Rattle.day.specs.Day as Day
use Rattle.day.specs.Day.{Day}
use Rattle.day.specs.Plan.{Optimal}
use Rattle.day.specs.Outcome.{Memory, memory_of, sizes_of, Cleared, Accepted}
use Rattle.day.specs.Paths.{full}
use Rattle.path_checks.specs.declared.Needed.{Needed}
use Rattle.checks.specs.Passed.{Admitted}
use Rattle.path_checks.specs.Needed.{NeededBy}
use Rattle.weigher.specs.Verdict.{totals_of}
use Rattle.weigher.specs.Walk.{FeasiblePlan, path_plan}
use Rattle.theory.specs.Problem.{Problem, periods, total, model_within, Bounded}
use Rattle.theory.specs.Cut.{optimal_ext}
use Rattle.theory.specs.Net.{problem_of, limits_fit, periods_is, total_is, bounded}
use Rattle.theory.specs.Store.{ceiling_at, ceilings_of}
use Rattle.theory.proofs.Store.{ceiling_is, passes_covered}
use Rattle.theory.proofs.Base.{store_optimal}
use Rattle.full_table.specs.Table.{TableFilled, Traceable, plan_read}
use Rattle.full_table.specs.Right.{filled_traced, filled_optimal}
use Rattle.full.specs.Work.{Workable, PlanLeft}

-- The table filled: it can be read back, and what is read is the plan.
module _ {p : Problem} {U : List ℕ} {T : ℕ} {costs choices slots : List ℕ} (w : Workable p U T costs choices slots) {cells : List ℕ}
    (filled : TableFilled p U T cells) where
  pub traceable : Bounded p → length cells ≡ length choices → Traceable cells (length slots) T
  traceable b size =
      rw (w.each)
      (record {
        small = omega (arith, w.fillable.is, b.small);
        choice_cells = omega (arith, size, w.fillable.choice_cells);
        traced = filled_traced w.fillable filled;
      })

  pub planned : {slots' : List ℕ} → slots' ≡ plan_read cells (length slots) T → PlanLeft p U slots'
  planned e =
      let n = w.each in
      rw (e, n) (rw append-nil at (filled_optimal w.fillable filled []))

-- a part at the front, given back
module _ (k : ℕ) (l part : List ℕ) (inside : k ≤ length l) (e : length part ≡ length (take k l)) where
  size_is : length part ≡ k
  size_is = e ∙ length-take-le k l inside

  back_length : length (part ++ drop k l) ≡ length l
  back_length = omega (arith, length-append part (drop k l), length-drop k l, size_is)

  back_rest : drop k (part ++ drop k l) ≡ drop k l
  back_rest = drop_at part (drop k l) k size_is

  back_cleared : {l' : List ℕ} → Cleared k (part ++ drop k l) l' → Cleared k l l'
  back_cleared c = c ∙ ap (λ (t : List ℕ). replicate k 0 ++ t) back_rest

-- The problem that a day is made into, under its ceilings.
module _ (d : Day) {p : Problem} (made : p ≡ problem_of d) where
  pub made_bounded : {s : Sizes} → Admitted full d s → Bounded p
  made_bounded a = rw made (bounded d a.day)

  pub ceilings_each : {ceilings : List ℕ} → ceilings ≡ ceilings_of d → length ceilings ≡ periods p
  ceilings_each under = rw (made, under) (length-list_of (ceiling_at d) (Day.periods d) ∙ sym (periods_is d))

module _ {d : Day} (m : Memory) {p : Problem} {ceilings : List ℕ} (a : Admitted full d (sizes_of m)) (made : p ≡ problem_of d)
    (under : ceilings ≡ ceilings_of d) where
  -- T and n as they are counted, and the cells that they need
  module _ {T n : ℕ} {c : Needed} (t : T ≡ Day.total d) (is_n : n ≡ Day.periods d) (counted : NeededBy full n T c) where
    needed : NeededBy full (Day.periods d) (Day.total d) c
    needed = rw (t, is_n) at counted

    costs_inside : c.costs ≤ length m.costs
    costs_inside = omega (arith, needed.costs, a.room.costs)

    choices_inside : c.choices ≤ length m.choices
    choices_inside = omega (arith, needed.choices, a.room.choices)

    slots_inside : n ≤ length m.slots
    slots_inside = omega (arith, a.room.slots)

    pub workable : Workable p ceilings T (take c.costs m.costs) (take c.choices m.choices) (take n m.slots)
    workable =
        let e = periods_is d in
        let costs = length-take-le c.costs m.costs costs_inside ∙ needed.costs in
        let choices = length-take-le c.choices m.choices choices_inside ∙ needed.choices in
        rw (made, under)
        (record {
          fillable = record {
            covered = rw e (passes_covered d (limits_fit a.day) (Day.periods d) (omega arith) a.supplied);
            is = t ∙ sym (total_is d a.day.limits.nonempty);
            under = λ k l. omega (arith, ceiling_is d k (omega (arith, e)), t);
            cost_cells = rw t (omega (arith, costs));
            choice_cells = rw (e, t) (omega (arith, choices));
          };
          each = length-take-le n m.slots slots_inside ∙ (is_n ∙ sym e);
        })

    module _ (slots : List ℕ) (left : PlanLeft p ceilings slots) (size : length slots ≡ length (take n m.slots)) where
      abbrev slots' : List ℕ
      slots' = slots ++ drop n m.slots

      same : (k : ℕ) → k < periods (problem_of d) → at slots k ≡ at slots' k
      same k h = sym (get_or-append slots _ 0 k (omega (arith, size_is n m.slots slots slots_inside size, periods_is d)))

      left_optimal : Optimal d (at slots')
      left_optimal =
          let q = problem_of d in
          (store_optimal d (limits_fit a.day) (λ k l. (a.supplied k l).room) (at slots')).1
          (optimal_ext (model_within q (ceilings_of d)) (periods q) (total q) (at slots) (at slots') same (rw (made, under) at left))

      pub left_feasible : FeasiblePlan d slots'
      left_feasible = path_plan a (back_length n m.slots slots slots_inside size) left_optimal.feasible

      -- The front parts as the work leaves them, and then cleared, are as an accepted call leaves its memory.
      pub work_accepted : {r : Totals} (costs choices : List ℕ) {costs' choices' : List ℕ} → length costs ≡ length (take c.costs m.costs)
          → length choices ≡ length (take c.choices m.choices) → r ≡ totals_of d (at slots') → Cleared c.costs (costs ++ drop c.costs m.costs) costs'
          → Cleared c.choices (choices ++ drop c.choices m.choices) choices' → Accepted full d r m (memory_of costs' choices' slots')
      work_accepted costs choices e f is clear clear' =
          record {
            plan = left_optimal;
            counts = rw is refl;
            size = back_length n m.slots slots slots_inside size;
            rest = subst (λ (k : ℕ). drop k slots' ≡ drop k m.slots) is_n (back_rest n m.slots slots slots_inside size);
            costs = rw needed.costs at (back_cleared c.costs m.costs costs costs_inside e clear);
            choices = rw needed.choices at (back_cleared c.choices m.choices choices choices_inside f clear');
          }
