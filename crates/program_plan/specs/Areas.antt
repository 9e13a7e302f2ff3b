-- The full path in the areas that both programs lend it.
-- Main definitions: `lent`; `PlansInAreas`, the contract. Main statements: `plan_refused`, `plan_in_slots`, what an answer tells. Assumes nothing.
use Rattle.std.specs.Prelude.{◌≡◌, refl, List, ℕ, length, replicate, None, Some, Result, Ok, Err}
use Rattle.std.proofs.Common.{subst, arith}
use Rattle.std.proofs.lemmas.List.{length-replicate}
use Rattle.day.specs.declared.Refusal.{Refusal}
use Rattle.day.specs.declared.Sizes.{Sizes}
use Rattle.day.specs.declared.Totals.{Totals}
use Rattle.day.specs.Sums.{at}
use Rattle.day.specs.Day.{Day}
use Rattle.day.specs.Plan.{Optimal}
use Rattle.day.specs.Tests.{gives_is}
use Rattle.day.specs.Outcome.{sizes, memory_of, sizes_of, refusal, Counts, Runs}
use Rattle.day.specs.Paths.{full}
use Rattle.checks.specs.Passed.{Admitted, admitted}

-- what a program lends: 1,000 cost cells, 24,000 choice cells, 96 slots
abbrev pub lent : Sizes
lent = sizes 1000 24000 96

-- the full path's contract, with slots lent and areas of these sizes that hold zero; what they hold afterwards is nobody's
pub record PlansInAreas (d : Day) (before : List ℕ) (answer : Result Totals Refusal) (after : List ℕ) : Type 0 where
  pub costs : List ℕ
  pub choices : List ℕ
  pub runs : Runs full d (memory_of (replicate 1000 0) (replicate 24000 0) before) answer (memory_of costs choices after)

-- slots of 96 cells that hold zero, before the call
abbrev pub blank_slots : List ℕ
blank_slots = replicate 96 0

blank_sizes : sizes_of (memory_of (replicate 1000 0) (replicate 24000 0) blank_slots) ≡ lent
blank_sizes = rw (length-replicate {A = ℕ} 1000 0, length-replicate {A = ℕ} 24000 0, length-replicate {A = ℕ} 96 0) refl

-- a refused day's first refusal
pub plan_refused : (d : Day) (after : List ℕ) (answer : Result Totals Refusal) (refused : Refusal)
    → answer ≡ Err refused → PlansInAreas d blank_slots answer after
    → refusal full d lent ≡ Some refused
plan_refused d after answer refused e p =
    let left = memory_of p.costs p.choices after in
    let q = subst (λ (a : Result Totals Refusal). Runs full d (memory_of (replicate 1000 0) (replicate 24000 0) blank_slots) a left) e p.runs in
    subst (λ (m : Sizes). refusal full d m ≡ Some refused) blank_sizes (gives_is q.0)

-- an accepted one: no test refuses, and the 96 slots hold the plan, whose cost and setups are given
pub record InSlots (d : Day) (after : List ℕ) (t : Totals) : Type 0 where
  pub passed : refusal full d lent ≡ None
  pub admitted : Admitted full d lent
  pub size : length after ≡ 96
  pub plan : Optimal d (at after)
  pub counts : Counts d (at after) t

pub plan_in_slots : (d : Day) (after : List ℕ) (answer : Result Totals Refusal) (t : Totals) → answer ≡ Ok t → PlansInAreas d blank_slots answer after
    → InSlots d after t
plan_in_slots d after answer t e p =
    let left = memory_of p.costs p.choices after in
    let q = subst (λ (a : Result Totals Refusal). Runs full d (memory_of (replicate 1000 0) (replicate 24000 0) blank_slots) a left) e p.runs in
    let passed : refusal full d lent ≡ None = subst (λ (m : Sizes). refusal full d m ≡ None) blank_sizes q.0 in
    record {
      passed = passed;
      admitted = admitted full d lent passed;
      size = omega (arith, q.1.size, length-replicate {A = ℕ} 96 0);
      plan = q.1.plan;
      counts = q.1.counts;
    }
