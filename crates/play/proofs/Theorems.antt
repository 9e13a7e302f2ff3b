-- What holds of a played day, over the call's contract. Main statements: `play_inventory`, `play_demand`, both balances;
-- `played_keeps`, `keeps_played`, which plans are played; `plays_is`, one answer keeps the promise; `as_planned`. Assumes nothing.
use Rattle.std.proofs.Common.{◌≡◌, refl, List, [], ◌∷◌, ◌++◌, ℕ, zero, suc, ◌+◌, ◌-◌, ◌≤◌, length}
use Rattle.std.proofs.Common.{sym, ap, ◌∙◌, arith, None, Ok, Err}
use Rattle.std.proofs.lemmas.Option.{none-some}
use Rattle.day.specs.declared.Totals.{Totals}
use Rattle.day.specs.Sums.{at, sum_to}
use Rattle.day.specs.Day.{Day, periods, demand_to, max_total}
use Rattle.day.specs.Plan.{inventory, Feasible}
use Rattle.day.specs.Refusals.{bad_slots, pair_tests, total_tests}
use Rattle.day.specs.Tests.{gives_is, first_split}
use Rattle.day.specs.Figures.{Figures, same_values}
use Rattle.checks.specs.Passed.{tables_passed}
use Rattle.range_checks.specs.Passed.{pair_passed}
use Rattle.weigher.specs.declared.Breach.{Breach}
use Rattle.weigher.specs.declared.Fault.TheVariants.{Refused, Broken}
use Rattle.weigher.specs.Verdict.{Verdict, verdict_of}
use Rattle.weigher.specs.Answers.{verdict_figures, same_verdict}
use Rattle.weigher.specs.Theorems.{holds_feasible, feasible_holds}
use Rattle.play.specs.declared.Flows.{Flows}
use Rattle.play.specs.Play.{AsPlanned, lost_of, disposed_of, left_of, inventory_to, flows_to, flows_of}
use Rattle.play.specs.Answers.{Played, play_refusal, played_on, play_figures, play_answer, Plays}
use Rattle.play.proofs.Running.{inventory_balance, demand_balance}

-- the figures fix the flows
abbrev flows_with : List ℕ → Flows
flows_with l = record { produced = at l 0; delivered = at l 1; lost = at l 2; disposed = at l 3; left = at l 4 }

-- where an answer plays, the verdict is "holds", and its flows are those of the play
plays_held : (v : Verdict) (p q : Flows) → play_figures (Ok p) ≡ play_figures (played_on v q) → ((t : Totals) × (v ≡ Ok t)) × (p ≡ q)
plays_held (Ok t) p q e = ((t, refl), ap flows_with (same_values e))
plays_held (Err b) p q e = absurd (none-some _ (sym (ap (λ (f : Figures ℕ). f.values) e)))

-- where it gives a broken rule, that is the verdict
plays_broken : (v : Verdict) (b : Breach) (q : Flows) → play_figures (Err (Broken b)) ≡ play_figures (played_on v q)
    → verdict_figures (Err b) ≡ verdict_figures v
plays_broken (Ok t) b q e = absurd (none-some _ (ap (λ (f : Figures ℕ). f.values) e))
plays_broken (Err c) b q e = e

module _ (actual : List ℕ) (d : Day) (plan : List ℕ) where
  -- a day that 1 lets pass has a period
  nonempty : play_refusal actual d plan ≡ None → 1 ≤ periods d
  nonempty e =
      let paired = (first_split (pair_tests actual d) (total_tests max_total d ++ (bad_slots (length plan) (periods d) ∷ [])) e).0 in
      (tables_passed d (pair_passed actual d paired).tables).nonempty

  module _ {p : Flows} (h : Plays actual d plan (Ok p)) where
    pub played_flows : p ≡ flows_of d (at plan) (at actual)
    played_flows = (plays_held (verdict_of d (at plan)) p (flows_of d (at plan) (at actual)) h.1).1

    -- opening + made = delivered + spilled + left
    pub play_inventory : d.opening + p.produced ≡ p.delivered + p.disposed + p.left
    play_inventory = rw played_flows (inventory_balance d.opening (at d.store) (at plan) (at actual) (periods d))

    -- delivered + missed = needed
    pub play_demand : p.delivered + p.lost ≡ sum_to (at actual) (periods d)
    play_demand = rw played_flows (demand_balance d.opening (at d.store) (at plan) (at actual) (periods d))

    -- a plan that is played keeps the conditions
    pub played_keeps : Feasible d (at plan)
    played_keeps =
        let held = (plays_held (verdict_of d (at plan)) p (flows_of d (at plan) (at actual)) h.1).0 in
        (holds_feasible d (at plan) (nonempty h.0) held.0 held.1).0

  -- it is the only one
  pub plays_is : (answer : Played) → Plays actual d plan answer → answer ≡ play_answer actual d plan
  plays_is (Err (Refused r)) g = rw (gives_is g) refl
  plays_is (Err (Broken b)) e =
      let v = verdict_of d (at plan) in
      let same = same_verdict (Err b) v (plays_broken v b (flows_of d (at plan) (at actual)) e.1) in
      rw (e.0, ← same) refl
  plays_is (Ok p) e =
      let held = plays_held (verdict_of d (at plan)) p (flows_of d (at plan) (at actual)) e.1 in
      rw (e.0, held.0.1, held.1) refl

  -- where no test refuses, a plan that keeps the conditions is played
  pub keeps_played : play_refusal actual d plan ≡ None → Feasible d (at plan) → (answer : Played) → Plays actual d plan answer
      → answer ≡ Ok (flows_of d (at plan) (at actual))
  keeps_played passed f answer h = plays_is answer h ∙ rw (passed, feasible_holds d (at plan) f) refl

module _ (d : Day) (x : ℕ → ℕ) (f : Feasible d x) where
  abbrev flows : ℕ → Flows
  flows i = flows_to d.opening (at d.store) x (at d.demand) i

  -- before a period the charge of the periods passed was enough
  served : (i : ℕ) → i ≤ periods d → demand_to d i ≤ d.opening + sum_to x i
  served zero l = omega arith
  served (suc k) l = f.served k l

  -- one period
  one : (there need store : ℕ) → need ≤ there → there - need ≤ store
      → (lost_of there need ≡ 0) × (disposed_of there need store ≡ 0) × (left_of there need store ≡ there - need)
  one there need store a b = (omega arith, omega arith, omega arith)

  pub as_planned : (i : ℕ) → i ≤ periods d → AsPlanned d x i (flows i)
  as_planned zero l = record { left = omega arith; lost = refl; disposed = refl }
  as_planned (suc k) l =
      let before = as_planned k (omega arith) in
      let there = inventory_to d.opening (at d.store) x (at d.demand) k + x k in
      let now-served = served (suc k) l in
      let stored = f.stored k l in
      let was-served = served k (omega arith) in
      let is : there ≡ inventory d x k + x k = omega (arith, before.left) in
      let turn = one there (at d.demand k) (at d.store k) (omega arith) (omega arith) in
      record {
        left = turn.2 ∙ omega (arith, is, now-served, was-served);
        lost = omega (arith, before.lost, turn.0);
        disposed = omega (arith, before.disposed, turn.1);
      }
