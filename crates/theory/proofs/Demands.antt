-- What holds of a day and its plan, beyond the contract of any one call.
-- Main statements: `plan_uses`, `feasible_iff`, `shortage_iff`, `shortage_names`, on days whose stores can't bind `loose_feasible_iff`,
-- `loose_names`; `optimal_exists`, `plan_unique`.
-- Assumes nothing.
use Rattle.std.specs.Prelude.{◌≡◌, refl, ◌↔◌, ℕ, suc, ◌+◌, ◌≤◌, ◌<◌, None, Some}
use Rattle.std.proofs.Common.{ap, arith, le-ltb}
use Rattle.std.proofs.Math.Decide.{dec_lt}
use Rattle.day.specs.declared.Refusal.{Refusal}
use Rattle.day.specs.declared.Refusal.TheVariants.{Shortage}
use Rattle.day.specs.Sums.{at}
use Rattle.day.specs.Find.{nothing_found}
use Rattle.day.specs.Day.{Day, periods, demand_to, capacity_to, required, total, net_to}
use Rattle.day.specs.Plan.{Feasible, Optimal, cost}
use Rattle.day.specs.Refusals.{bad_opening, short, shortage, FirstAt, FirstShort, refuse_at}
use Rattle.checks.specs.Passed.{Passes, passes_iff, shortage_passed, shortage_found}
use Rattle.theory.specs.Order.{precedes_anti}
use Rattle.theory.specs.Recursion as Recursion
use Rattle.theory.specs.Net.{Fits}
use Rattle.theory.specs.Store.{store_model, Loose}
use Rattle.theory.proofs.Store.{keeps_iff, passes_loose}
use Rattle.theory.proofs.Base.{store_feasible, store_plan}
use Rattle.theory.specs.Demands.{FirstAbove}

-- The plan is one.
pub plan_unique : (d : Day) (x y : ℕ → ℕ) → Optimal d x → Optimal d y → (k : ℕ) → k < periods d → x k ≡ y k
plan_unique d x y o q = precedes_anti (cost d) (periods d) x y (o.first y q.feasible) (q.first x o.feasible)

-- Refusal 14 is given to no day that has a plan, which uses A up.
pub plan_uses : (d : Day) (x : ℕ → ℕ) → Feasible d x → bad_opening d ≡ None
plan_uses d x f = rw (le-ltb (required d) d.opening (omega (arith, f.ends refl))) refl

-- a first period in other words: where failing means failing so, and passing up to a period means passing so
first_by : (d : Day) {Fails Passes Fails' Passes' : ℕ → Type 0} (r : Refusal) → FirstAt d Fails Passes r
    → ((k : ℕ) → k < periods d → Fails k → Fails' k) → ((k : ℕ) → k < periods d → ((j : ℕ) → j ≤ k → Passes j) → Passes' k)
    → FirstAt d Fails' Passes' r
first_by d r f fails passes =
    record {
      k = f.k;
      number = f.number;
      period = f.period;
      inside = f.inside;
      fails = fails f.k f.inside f.fails;
      earlier = λ j l. passes j (omega (arith, f.inside)) (λ i h. f.earlier i (omega arith));
    }

-- Of a day that tests 1 and 14 let pass.
module _ (d : Day) (fits : Fits d) where
  -- Whole amounts keep the conditions exactly if, in every period, the store takes A, and what must have been made can have been.
  pub feasible_iff : ((x : ℕ → ℕ) × Feasible d x) ↔ ((k : ℕ) → k < periods d → Passes d k)
  feasible_iff = keeps_iff d fits (periods d) (omega arith)

  -- Where there is a plan at all, there is the plan.
  pub optimal_exists : (y : ℕ → ℕ) → Feasible d y → (x : ℕ → ℕ) × Optimal d x
  optimal_exists y f =
      let room : (k : ℕ) → k < periods d → d.opening ≤ demand_to d (suc k) + at d.store k = (λ k l. (feasible_iff.0 (y, f) k l).room) in
      let w = Recursion.optimal_exists (store_model d) (periods d) (total d) y ((store_feasible d fits room y).0 f) in
      (w.0, (store_plan d fits room w.0).1 w.1)

  -- Refusal 7 is given exactly if no plan exists.
  pub shortage_iff : (shortage d ≡ None) ↔ ((x : ℕ → ℕ) × Feasible d x)
  shortage_iff = (
    λ e. feasible_iff.1 (shortage_passed d e),
    λ w. ap (refuse_at Shortage) (nothing_found (short d) (periods d) (λ k l. (passes_iff d k).1 (feasible_iff.0 w k l))),
  )

  -- And then it names the first period for which no amounts up to it keep the conditions through it.
  pub shortage_names : (r : Refusal) → shortage d ≡ Some r → FirstShort d r
  shortage_names r e =
      first_by d r (shortage_found d r e)
      (λ k l fails x h. fails ((keeps_iff d fits (suc k) l).0 (x, h) k (omega arith)))
      (λ k l pass. (keeps_iff d fits (suc k) l).1 (λ j h. pass j (omega arith)))

-- Whole amounts keep the conditions exactly if no more must have been made than C after every period,
pub loose_feasible_iff : (d : Day) → Loose d
    → ((x : ℕ → ℕ) × Feasible d x) ↔ ((k : ℕ) → k < periods d → net_to d (suc k) ≤ capacity_to d (suc k))
loose_feasible_iff d loose = (
  λ w k l. (passes_loose d loose k l).0 ((feasible_iff d loose.fits).0 w k l),
  λ h. (feasible_iff d loose.fits).1 (λ k l. (passes_loose d loose k l).1 (h k l)),
)

-- and refusal 7 names the first period in which more must.
pub loose_names : (d : Day) → Loose d → (r : Refusal) → shortage d ≡ Some r → FirstAbove d r
loose_names d loose r e = first_by d r (shortage_found d r e) exceeds (λ k l pass. (passes_loose d loose k l).0 (pass k (omega arith)))
  where
    exceeds : (k : ℕ) → k < periods d → (Passes d k → ⊥) → capacity_to d (suc k) < net_to d (suc k)
    exceeds k l fails = go (dec_lt (capacity_to d (suc k)) (net_to d (suc k)))
      where
        go : Dec (capacity_to d (suc k) < net_to d (suc k)) → capacity_to d (suc k) < net_to d (suc k)
        go (yes h) = h
        go (no h) = absurd (fails ((passes_loose d loose k l).1 (omega arith)))
