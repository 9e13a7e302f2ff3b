-- What the answer on a big day says, over the call's contract.
-- Main statements: `best_keeps`, the plan keeps the conditions and costs what is said; `used_steps`, the trials used are the steps of the rule;
-- `gap_exact`, `no_cheaper`, no plan is cheaper than cost less gap; `more_accepted`, `more_trials`, more trials are accepted
-- too, and never give a dearer plan; `one_answer`, day and trials fix
-- the answer; `big_iff`, `big_short`. Assumes nothing.
use Rattle.std.proofs.lemmas.Option.{none-some}
use Rattle.std.specs.Prelude.{◌≡◌, refl, List, [], ◌∷◌, ◌++◌, ◌↔◌, ℕ, ◌-◌, ◌≤◌, ◌<◌, drop, None, Result, Ok, Err}
use Rattle.std.proofs.Common.{sym, ap, ap₂, ◌∙◌, subst, arith, ne_eqb}
use Rattle.day.specs.declared.Refusal.{Refusal}
use Rattle.day.specs.declared.Totals.{Totals}
use Rattle.day.specs.declared.Trials.{Trials}
use Rattle.day.specs.Sums.{at, sum_ext}
use Rattle.day.specs.Day.{Day, periods, max_big_total}
use Rattle.day.specs.Plan.{Feasible, cost, setup_at, setups}
use Rattle.day.specs.Search.{kept_alike, cost_alike}
use Rattle.day.specs.Refusals.{no_trials, low_store, shortage, FirstShort}
use Rattle.day.specs.Tests.{gives_is, first_one, first_two}
use Rattle.day.specs.Figures.{same_values, first_value, second_value}
use Rattle.day.specs.declared.Sizes.{Sizes}
use Rattle.day.specs.Outcome.{Memory, sizes_of, Roomy, refusal}
use Rattle.day.specs.Paths.{big}
use Rattle.day.specs.Ranges.{LeastCost}
use Rattle.day.specs.Drops.{starts_free, Tried, Ended, big_refusal, Dropping}
use Rattle.checks.specs.Passed.{DayLimits}
use Rattle.theory.specs.Net.{limits_fit}
use Rattle.theory.specs.Store.{Loose}
use Rattle.theory.proofs.Demands.{shortage_iff, shortage_names}
use Rattle.theory.proofs.Easier.{least_one}
use Rattle.theory.proofs.Calls.{only_shortage}
use Rattle.big.specs.Passed.{big_loose, big_trials}
use Rattle.big.specs.Work.{begins_with}
use Rattle.theory.specs.Drops.{Stands}
use Rattle.theory.proofs.Drops.{tried_stands, free_least, ended_cheaper, ended_one}

-- An accepted call.
module _ (trials : ℕ) (d : Day) (before after : Memory) (a : Totals) (b : Trials) (runs : Dropping trials d before (Ok (a, b)) after) where
  abbrev state : Tried
  state = runs.1.state

  abbrev plan : List ℕ
  plan = state.plan

  abbrev x : ℕ → ℕ
  x = at after.slots

  loose : Loose d
  loose = big_loose trials d (sizes_of before) runs.0

  stands : Stands d loose state
  stands = tried_stands d loose runs.1.used state runs.1.ended.tried

  -- the slots hold the best plan
  same : (k : ℕ) → k < periods d → at plan k ≡ x k
  same k l = begins_with plan (drop (periods d) before.slots) after.slots k runs.1.slots (omega (arith, stands.size))

  -- the answer's figures, one by one
  figures : (a.cost ∷ a.setups ∷ b.used ∷ b.gap ∷ [])
      ≡ (cost d (at plan) ∷ setups (periods d) (at plan) ∷ runs.1.used ∷ (cost d (at plan) - runs.1.free) ∷ [])
  figures = same_values runs.1.gives

  cost_is : a.cost ≡ cost d (at plan)
  cost_is = first_value runs.1.gives

  setups_is : a.setups ≡ setups (periods d) (at plan)
  setups_is = second_value runs.1.gives

  used_is : b.used ≡ runs.1.used
  used_is = let e = figures in cc

  gap_is : b.gap ≡ cost d (at plan) - runs.1.free
  gap_is = let e = figures in cc

  -- The plan in the slots keeps the conditions, and cost and setups are its own.
  pub best_keeps : Feasible d x × (a.cost ≡ cost d x) × (a.setups ≡ setups (periods d) x)
  best_keeps = (
    kept_alike d (periods d) (at plan) x same stands.feasible,
    cost_is ∙ cost_alike d (at plan) x same,
    setups_is ∙ sum_ext (λ k. setup_at (at plan k)) (λ k. setup_at (x k)) (periods d) (λ k l. ap setup_at (same k l)),
  )

  -- The trials used are as many as the rule has steps until all are used up, or a round has forbidden none.
  pub used_steps : (s : Tried) × Ended d trials b.used s × (after.slots ≡ s.plan ++ drop (periods d) before.slots)
  used_steps = (state, subst (λ (t : ℕ). Ended d trials t state) (sym used_is) runs.1.ended, runs.1.slots)

  free_low : runs.1.free ≤ cost d (at plan)
  free_low =
      let least = runs.1.least in
      omega (arith, free_least d loose least.plan (at plan) least.optimal stands.feasible, least.is)

  -- Cost less gap is the least cost with all starts free,
  pub gap_exact : LeastCost (starts_free d.capacity d) (a.cost - b.gap)
  gap_exact =
      let e : runs.1.free ≡ a.cost - b.gap = omega (arith, free_low, cost_is, gap_is) in
      subst (LeastCost (starts_free d.capacity d)) e runs.1.least

  -- so no plan that keeps the conditions is cheaper.
  pub no_cheaper : (y : ℕ → ℕ) → Feasible d y → a.cost - b.gap ≤ cost d y
  no_cheaper y f =
      let least = gap_exact in
      omega (arith, free_least d loose least.plan y least.optimal f, least.is)

-- Where fewer trials are accepted, more are,
pub more_accepted : (trials more : ℕ) (d : Day) (s : Sizes) → trials ≤ more → big_refusal trials d s ≡ None → big_refusal more d s ≡ None
more_accepted trials more d s le ok =
    let some-allowed = big_trials trials d s ok in
    rw ((first_two (refusal big d s) (no_trials trials) ok).0, ne_eqb more 0 (λ e. omega arith)) refl

-- and they never give a dearer plan.
pub more_trials : (trials more : ℕ) (d : Day) (m m' after after' : Memory) (a a' : Totals) (b b' : Trials) → trials ≤ more
    → Dropping trials d m (Ok (a, b)) after → Dropping more d m' (Ok (a', b')) after' → a'.cost ≤ a.cost
more_trials trials more d m m' after after' a a' b b' le runs runs' =
    omega (
      arith,
      ended_cheaper d (loose trials d m after a b runs) trials more runs.1.used runs'.1.used runs.1.state runs'.1.state le
          runs.1.ended runs'.1.ended,
      cost_is trials d m after a b runs,
      cost_is more d m' after' a' b' runs',
    )

-- Day and trials fix the answer: the plan, and every figure.
pub one_answer : (trials : ℕ) (d : Day) (m m' after after' : Memory) (a a' : Totals) (b b' : Trials)
    → Dropping trials d m (Ok (a, b)) after → Dropping trials d m' (Ok (a', b')) after'
    → ((k : ℕ) → k < periods d → at after.slots k ≡ at after'.slots k) × (a ≡ a') × (b ≡ b')
one_answer trials d m m' after after' a a' b b' runs runs' =
    let one = ended_one d (loose trials d m after a b runs) trials _ _ _ _ runs.1.ended runs'.1.ended in
    let plans = ap (λ (s : Tried). s.plan) one.1 in
    let free = least_one (starts_free d.capacity d) _ _ runs.1.least runs'.1.least in
    let costs = ap (λ (p : List ℕ). cost d (at p)) plans in
    let starts = ap (λ (p : List ℕ). setups (periods d) (at p)) plans in (
      λ k l. sym (same trials d m after a b runs k l) ∙ (ap (λ (p : List ℕ). at p k) plans ∙ same trials d m' after' a' b' runs' k l),
      ap₂ (λ (c s : ℕ). record { cost = c; setups = s })
          (cost_is trials d m after a b runs ∙ (costs ∙ sym (cost_is trials d m' after' a' b' runs')))
          (setups_is trials d m after a b runs ∙ (starts ∙ sym (setups_is trials d m' after' a' b' runs'))),
      ap₂ (λ (u g : ℕ). record { used = u; gap = g })
          (used_is trials d m after a b runs ∙ (one.0 ∙ sym (used_is trials d m' after' a' b' runs')))
          (gap_is trials d m after a b runs ∙ (ap₂ ◌-◌ costs free ∙ sym (gap_is trials d m' after' a' b' runs'))),
    )

-- the answer is a plan
abbrev pub IsPlan : Result (Totals × Trials) Refusal → Type 0
IsPlan (Err r) = ⊥
IsPlan (Ok _) = Unit {0}

-- A day within the limits of big days whose stores can't bind, with memory that is long enough, and a trial or more: only 7 can be refused.
module _ (trials : ℕ) (d : Day) (m : Memory) (limits : DayLimits max_big_total d) (room : Roomy big d (sizes_of m)) (kind : low_store d ≡ None)
    (some-allowed : 0 < trials) where
  only_short : big_refusal trials d (sizes_of m) ≡ shortage d
  only_short =
      rw (only_shortage big d m limits room (rw kind refl), ne_eqb trials 0 (λ e. omega arith)) (first_one (shortage d))

  -- The answer is a plan exactly if some amounts keep the conditions.
  pub big_iff : (r : Result (Totals × Trials) Refusal) (after : Memory) → Dropping trials d m r after → IsPlan r ↔ ((x : ℕ → ℕ) × Feasible d x)
  big_iff (Err q) after runs =
      (λ empty. absurd empty, λ w. none-some q (sym ((shortage_iff d (limits_fit limits)).1 w) ∙ (sym only_short ∙ gives_is runs.0)))
  big_iff (Ok (a, b)) after runs = (λ _. (at after.slots, (best_keeps trials d m after a b runs).0), λ _. tt)

  -- Otherwise it is refusal 7 with the first period for which no amounts up to it keep the conditions through it.
  pub big_short : (q : Refusal) (after : Memory) → Dropping trials d m (Err q) after → FirstShort d q
  big_short q after runs = shortage_names d (limits_fit limits) q (sym only_short ∙ gives_is runs.0)
