-- Laws of the call: what passed tests leave for the loops, and what the loops leave is what an accepted call leaves.
-- Assumes nothing.
use Rattle.std.proofs.Common.{◌≡◌, refl, ap, ◌∙◌, subst, List, ◌++◌, ℕ, ◌≤◌, arith, length, drop, replicate, drop_at}
use Rattle.std.proofs.Math.ListN.{length-replicate}
use Rattle.day.specs.declared.Totals.{Totals}
use Rattle.day.specs.Sums.{at}
use Rattle.day.specs.Day.{Day}
use Rattle.day.specs.Day as Day
use Rattle.day.specs.Plan.{Optimal}
use Rattle.day.specs.Refusals.{paid_setup, low_store}
use Rattle.day.specs.Tests.{first_two}
use Rattle.day.specs.Outcome.{Memory, memory_of, sizes_of, cleared, Cleared, Accepted}
use Rattle.day.specs.Paths.{free}
use Rattle.checks.specs.Passed.{Admitted, free_passed}
use Rattle.weigher.specs.Verdict.{totals_of}
use Rattle.weigher.specs.Walk.{FeasiblePlan, path_plan}
use Rattle.theory.specs.Model.{Model}
use Rattle.theory.specs.Problem.{Problem, periods, model_of, model_rising, model_unlimited}
use Rattle.theory.specs.Net.{net_needs, problem_of, periods_is, bounded}
use Rattle.theory.specs.Store.{Loose}
use Rattle.theory.proofs.Loose.{limits_loose}
use Rattle.theory.proofs.Store.{loose_supplied}
use Rattle.theory.proofs.Base.{loose_optimal}
use Rattle.theory.specs.FreeSetups.{Free}
use Rattle.theory.specs.Batches.{Filled, Solves}
use Rattle.theory.proofs.Batches.{cleared_length, cleared_fresh, greedy_right}
use Rattle.free.specs.Solved.{Solvable, Solved}

module _ (d : Day) (m : Memory) (ok : Admitted free d (sizes_of m)) where
  abbrev n : ℕ
  n = periods (problem_of d)

  abbrev M : Model
  M = model_of (problem_of d)

  -- no setup of the day is paid for
  unpaid : Free M n
  unpaid k l = free_passed d (first_two (paid_setup d) (low_store d) ok.own).0 k (omega (arith, periods_is d))

  -- no store can bind
  loose : Loose d
  loose = limits_loose (paid_setup d) ok.day ok.own

  room : n ≤ length m.slots
  room = omega (arith, periods_is d, ok.room.slots)

  -- The problem as it was made.
  module _ {p : Problem} (made : p ≡ problem_of d) where
    pub solvable : Solvable p m
    solvable =
        let b = bounded d ok.day in
        rw made
        (record {
          few = b.few;
          capacities = b.capacities;
          units = b.units;
          holdings = b.holdings;
          unpaid = unpaid;
          supplied = loose_supplied d loose ok.supplied;
          cost_cells = omega (arith, periods_is d, ok.room.costs);
          room = room;
        })

    -- The memory once the plan is found.
    module _ (after : Memory) (found : Solved p m after) where
      left : Solved (problem_of d) m after
      left = rw made at found

      plan : Filled M n (cleared n m.slots) after.slots
      plan =
          subst (Solves M n (cleared n m.slots)) left.slots
          (greedy_right M (model_rising (problem_of d)) (model_unlimited (problem_of d)) n unpaid (cleared n m.slots)
          (cleared_fresh n m.slots room) (at (net_needs d)) (λ k l. refl))

      slots_optimal : Optimal d (at after.slots)
      slots_optimal = (loose_optimal d loose (at after.slots)).1 plan.optimal

      size : length after.slots ≡ length m.slots
      size = plan.each ∙ cleared_length n m.slots room

      pub slots_feasible : FeasiblePlan d after.slots
      slots_feasible = path_plan ok size slots_optimal.feasible

      -- once the area is cleared, all is as an accepted call leaves it
      pub work_accepted : (t : Totals) (costs : List ℕ) → t ≡ totals_of d (at after.slots) → Cleared (Day.periods d) after.costs costs
          → Accepted free d t m (memory_of costs m.choices after.slots)
      work_accepted t costs weighed clear =
          record {
            plan = slots_optimal;
            counts = rw weighed refl;
            size = size;
            rest = subst (λ (k : ℕ). drop k after.slots ≡ drop k m.slots) (periods_is d)
                (plan.rest ∙ drop_at (replicate n 0) (drop n m.slots) n (length-replicate n 0));
            costs = clear ∙ ap (λ (l : List ℕ). replicate (Day.periods d) 0 ++ l) (rw (periods_is d) at left.costs);
            choices = refl;
          }
