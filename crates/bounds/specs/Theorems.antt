-- What the answer on needs known as ranges says of every table between the two, over the call's contract.
-- Main statements: `between_least`; `bounded_iff`, `refused_short`. Assumes nothing.
use Rattle.std.proofs.lemmas.Option.{none-some}
use Rattle.std.specs.Prelude.{None, Result, Ok, Err}
use Rattle.std.proofs.Common.{◌≡◌, List, [], ◌∷◌, ◌↔◌, ℕ, ◌≤◌}
use Rattle.std.proofs.Common.{sym, ◌∙◌, arith}
use Rattle.day.specs.declared.Refusal.{Refusal}
use Rattle.day.specs.declared.Bounds.{Bounds}
use Rattle.day.specs.Day.{Day, with_demand}
use Rattle.day.specs.Plan.{Feasible}
use Rattle.day.specs.Refusals.{first, shortage, FirstShort}
use Rattle.day.specs.Tests.{gives_is, first_passed, first_one}
use Rattle.day.specs.Figures.{first_value, second_value}
use Rattle.day.specs.Outcome.{Memory, sizes_of}
use Rattle.day.specs.Ranges.{LeastCost, Between, range_tests, range_refusal, Bounding}
use Rattle.range_checks.specs.Passed.{range_passed, all_passed}
use Rattle.theory.specs.Net.{Fits, limits_fit}
use Rattle.theory.proofs.Demands.{shortage_iff, shortage_names}
use Rattle.theory.proofs.Easier.{easier_least, least_one}
use Rattle.bounds.specs.Both.{lower_easier}

-- Every table of needs between the two, period by period, has a plan, and its least cost lies between the two that are given.
pub between_least : (lowest : List ℕ) (d : Day) (before after : Memory) (b : Bounds) → Bounding lowest d before (Ok b) after
    → (needs : List ℕ) → Between lowest needs d.demand → (c : ℕ) × LeastCost (with_demand needs d) c × (b.lowest ≤ c) × (c ≤ b.highest)
between_least lowest d before after b runs needs t =
    let r = (all_passed lowest d (sizes_of before) runs.0).0 in
    let given = runs.1 in
    let high = given.high in
    let e = with_demand needs d in
    let low = with_demand lowest d in
    let size = t.size in
    let some = r.day.limits.nonempty in
    let down = easier_least e d (lower_easier needs d size t.below) r.empty r.empty some high.plan high.optimal.feasible in
    let c = down.1 in
    let least = down.3 in
    let lower = lower_easier lowest e (r.size ∙ sym size) (λ k l. t.above k (omega arith)) in
    let up = easier_least low e lower r.empty r.empty (omega arith) least.plan least.optimal.feasible in
    let most_is = least_one d given.most down.0 high down.2 in
    let mid-is = least_one e c up.0 least up.2 in
    let least-is = least_one low given.least up.1 given.low up.3 in
    (c, least, omega (arith, up.4, first_value given.gives), omega (arith, down.4, second_value given.gives))

-- the answer has the two costs
abbrev pub IsBounded : Result Bounds Refusal → Type 0
IsBounded (Err r) = ⊥
IsBounded (Ok b) = Unit {0}

-- Needs that no test before 7 refuses.
module _ (lowest : List ℕ) (d : Day) (m : Memory) (ok : first (range_tests lowest d (sizes_of m)) ≡ None) where
  fits : Fits d
  fits = limits_fit (range_passed lowest d (sizes_of m) ok).day

  only_shortage : range_refusal lowest d (sizes_of m) ≡ shortage d
  only_shortage = first_passed (range_tests lowest d (sizes_of m)) (shortage d ∷ []) ok ∙ first_one (shortage d)

  -- The answer has the two costs exactly if some amounts keep the conditions with the highest needs.
  pub bounded_iff : (r : Result Bounds Refusal) (after : Memory) → Bounding lowest d m r after → IsBounded r ↔ ((x : ℕ → ℕ) × Feasible d x)
  bounded_iff (Err q) after runs =
      (λ empty. absurd empty, λ w. none-some q (sym ((shortage_iff d fits).1 w) ∙ (sym only_shortage ∙ gives_is runs.0)))
  bounded_iff (Ok b) after runs = (λ _. (runs.1.high.plan, runs.1.high.optimal.feasible), λ _. tt)

  -- Otherwise it is refusal 7 with the first period for which no amounts up to it keep the conditions through it.
  pub refused_short : (q : Refusal) (after : Memory) → Bounding lowest d m (Err q) after → FirstShort d q
  refused_short q after runs = shortage_names d fits q (sym only_shortage ∙ gives_is runs.0)
