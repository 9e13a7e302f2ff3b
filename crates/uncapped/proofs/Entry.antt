-- Laws of the call: what passed tests leave for the loops, and what the loops leave is what an accepted call leaves.
-- Assumes nothing.
use Rattle.std.proofs.Common.{◌≡◌, refl, sym, ap, ◌∙◌, subst, List, ◌++◌, ℕ, ◌+◌, ◌<◌, arith, length, drop, replicate, length-append}
use Rattle.std.proofs.Common.{length-drop, drop_at}
use Rattle.std.proofs.Math.ListN.{length-replicate, get_or-replicate, get_or-append}
use Rattle.day.specs.declared.Totals.{Totals}
use Rattle.day.specs.Sums.{at}
use Rattle.day.specs.Day.{Day, max_capacity}
use Rattle.day.specs.Day as Day
use Rattle.day.specs.Plan.{Optimal}
use Rattle.day.specs.Refusals.{binding, low_store}
use Rattle.day.specs.Tests.{first_two}
use Rattle.day.specs.Outcome.{Memory, memory_of, sizes_of, Cleared, Accepted}
use Rattle.day.specs.Paths.{uncapped}
use Rattle.checks.specs.Passed.{Admitted, binding_passed}
use Rattle.weigher.specs.Verdict.{totals_of}
use Rattle.weigher.specs.Walk.{FeasiblePlan, path_plan}
use Rattle.theory.specs.Cut.{optimal_ext}
use Rattle.theory.specs.Model.{Model}
use Rattle.theory.specs.Problem.{Problem, Bounded, periods, total, model_of, model_rising, model_unlimited}
use Rattle.theory.specs.Net.{net_needs, rates_of, problem_of, periods_is, floor_is, total_is, bounded}
use Rattle.theory.specs.Store.{Loose}
use Rattle.theory.proofs.Loose.{limits_loose}
use Rattle.theory.proofs.Base.{loose_optimal}
use Rattle.theory.specs.Recursion.{leads_optimal}
use Rattle.theory.specs.Stages.{Solution}
use Rattle.theory.specs.Uncapped.{Uncapped}
use Rattle.theory.specs.WagnerWhitin.{wagner_whitin, wagner_whitin_right, Row}
use Rattle.uncapped_rows.specs.Bounds.{uncapacitated}
use Rattle.uncapped.specs.Solved.{Solvable, Solved}

-- what the loops run on, for a day
abbrev loops_of : Day → Problem
loops_of d = uncapacitated (net_needs d) d.setup d.unit (rates_of d.holding)

module _ (d : Day) (m : Memory) (ok : Admitted uncapped d (sizes_of m)) where
  abbrev p : Problem
  p = problem_of d

  abbrev n : ℕ
  n = periods p

  abbrev M : Model
  M = model_of p

  loops_bounded : Bounded (loops_of d)
  loops_bounded =
      let b = bounded d ok.day in
      record {
        nonempty = b.nonempty;
        few = b.few;
        capacities = length-replicate n max_capacity;
        setups = b.setups;
        units = b.units;
        holdings = b.holdings;
        demand = b.demand;
        capacity = λ k h. omega (arith, get_or-replicate n k max_capacity 0 h);
        setup = b.setup;
        unit = b.unit;
        holding = b.holding;
        small = b.small;
      }

  -- no capacity binds in the problem either
  room : Uncapped M n
  room k h =
      let pos = ok.day.limits.nonempty in
      let inside : k < Day.periods d = omega (arith, periods_is d) in
      omega (arith, binding_passed d (first_two (binding d) (low_store d) ok.own).0 k inside, floor_is d pos k (omega arith), total_is d pos)

  -- nor can a store bind
  loose : Loose d
  loose = limits_loose (binding d) ok.day ok.own

  row : Row M n (wagner_whitin M n)
  row = wagner_whitin_right M (model_rising p) (model_unlimited p) n room n (omega arith)

  abbrev plan : List ℕ
  plan = (wagner_whitin M n).plan

  -- the rows depend on no capacity
  same_rows : wagner_whitin (model_of (loops_of d)) n ≡ wagner_whitin M n
  unfolding wagner_whitin
  same_rows = refl

  -- The problem as it was made.
  module _ {q : Problem} (made : q ≡ problem_of d) where
    abbrev loops : Problem
    loops = uncapacitated q.demand q.setup q.unit q.holding

    loops_are : loops ≡ loops_of d
    loops_are = ap (λ (q : Problem). uncapacitated q.demand q.setup q.unit q.holding) made

    pub solvable : Solvable loops m
    solvable =
        let size = periods_is d in
        rw loops_are
        (record {
          ready = record {
            bounded = loops_bounded;
            cost_cells = omega (arith, ok.room.costs);
            choice_cells = omega (arith, ok.room.choices);
          };
          room = omega (arith, ok.room.slots);
        })

    -- The memory once the plan is found.
    module _ (after : Memory) (solved : Solved loops m after) where
      left : Solved (loops_of d) m after
      left = rw loops_are at solved

      is : after.slots ≡ plan ++ drop n m.slots
      is = left.slots ∙ ap (λ (s : Solution). s.plan ++ drop n m.slots) same_rows

      same : (k : ℕ) → k < n → at plan k ≡ at after.slots k
      same k h = sym (rw is (get_or-append plan (drop n m.slots) 0 k (omega (arith, row.each))))

      slots_optimal : Optimal d (at after.slots)
      slots_optimal =
          (loose_optimal d loose (at after.slots)).1
          (optimal_ext M n (total p) (at plan) (at after.slots) same (leads_optimal M n (total p) (wagner_whitin M n) row))

      size : length after.slots ≡ length m.slots
      size = ap length is ∙ simp (length-append, length-drop) (omega (arith, row.each, periods_is d, ok.room.slots))

      pub slots_feasible : FeasiblePlan d after.slots
      slots_feasible = path_plan ok size slots_optimal.feasible

      -- once the areas are cleared, all is as an accepted call leaves it
      pub work_accepted : (t : Totals) (costs choices : List ℕ) → t ≡ totals_of d (at after.slots)
          → Cleared (Day.periods d + 1) after.costs costs → Cleared (Day.periods d + 1) after.choices choices
          → Accepted uncapped d t m (memory_of costs choices after.slots)
      work_accepted t costs choices weighed clear clear' =
          record {
            plan = slots_optimal;
            counts = rw weighed refl;
            size = size;
            rest = subst (λ (k : ℕ). drop k after.slots ≡ drop k m.slots) (periods_is d)
                (ap (drop n) is ∙ drop_at plan (drop n m.slots) n row.each);
            costs = clear ∙ ap (λ (l : List ℕ). replicate (Day.periods d + 1) 0 ++ l) (rw (periods_is d) at left.costs);
            choices = clear' ∙ ap (λ (l : List ℕ). replicate (Day.periods d + 1) 0 ++ l) (rw (periods_is d) at left.choices);
          }
