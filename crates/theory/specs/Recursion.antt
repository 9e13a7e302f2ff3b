-- Recursion (5) for a model: the states are the totals made, and what it gives is the optimal plan.
-- Main statements: `best_to_right`, `optimal_exists`, `optimal_unique`. Assumes nothing.
use Rattle.std.specs.Prelude.{◌≡◌, refl, [], ℕ, suc, ◌+◌, ◌-◌, ◌*◌, ◌≤◌, ◌<◌, Option, None, Some}
use Rattle.std.proofs.Common.{sym, ◌∙◌, arith, ext_get_or}
use Rattle.std.proofs.Math.Decide.{dec_le}
use Rattle.day.specs.Sums.{at}
use Rattle.theory.specs.Model.{Model, production, cost_to, FeasibleTo, OptimalTo}
use Rattle.theory.specs.Order.{precedes_anti}
use Rattle.theory.specs.Stages.{Solution, Leads, Answers, best_to as best, answers_iff}
use Rattle.theory.specs.Totals.{Totals, stages, totals_answers}

unfoldable pub both? : {A B : Type 0} → Dec A → Dec B → Dec (A × B)
both? (no h) d = no (λ p. h p.0)
both? (yes a) (no h) = no (λ p. h p.1)
both? (yes a) (yes b) = yes (a, b)

abbrev pub totals : Model → Totals
totals M = record {
  capacity = M.capacity;
  Allowed = λ k X x. (M.floor (suc k) ≤ X) × (X ≤ M.ceiling (suc k));
  allowed? = λ k X x. both? (dec_le (M.floor (suc k)) X) (dec_le X (M.ceiling (suc k)));
  stage = λ k X x. production M k x + M.holding k * (X - M.floor (suc k));
}

-- f is the plan of (i, X), with its cost
abbrev pub PlanOf : Model → ℕ → ℕ → Solution → Type 0
PlanOf M i X f = Leads (FeasibleTo M i X) (λ x. cost_to M x i) i f

-- o is that, or nothing, and then nothing reaches X
abbrev pub AnswerOf : Model → ℕ → ℕ → Option Solution → Type 0
AnswerOf M i X o = Answers (FeasibleTo M i X) (λ x. cost_to M x i) i o

-- D_i(X), with the plan
unfoldable pub best_to : Model → ℕ → ℕ → Option Solution
best_to M i X = best (stages (totals M)) i X

module _ (M : Model) where
  -- Recursion (5) gives the first, by cost and then by size, of all the amounts that keep the rules and make X in the first i periods.
  pub best_to_right : (i X : ℕ) → AnswerOf M i X (best_to M i X)
  unfolding best_to
  best_to_right i X =
      answers_iff (λ x. cost_to M x i) i (best_to M i X)
      (λ x m. record { total = m.total; within = m.within; served = λ k l. (m.allowed k l).0; under = λ k l. (m.allowed k l).1 })
      (λ x r. record { total = r.total; within = r.within; allowed = λ k l. (r.served k l, r.under k l) })
      (totals_answers (totals M) i X)

-- the answer, where something reaches X, is a plan with its cost
pub found : (M : Model) (i X : ℕ) (o : Option Solution) (y : ℕ → ℕ) → AnswerOf M i X o → FeasibleTo M i X y
    → (f : Solution) × (o ≡ Some f) × PlanOf M i X f
found M i X None y a r = absurd (a y r)
found M i X (Some f) y a r = (f, refl, a)

pub leads_optimal : (M : Model) (i X : ℕ) (f : Solution) → PlanOf M i X f → OptimalTo M i X (at f.plan)
leads_optimal M i X f l = record { feasible = l.fits; first = l.first }

-- the plan of no periods, at no cost
pub plan_none : (M : Model) (X cost : ℕ) → X ≡ 0 → cost ≡ 0 → PlanOf M 0 X (record { cost = cost; plan = [] })
plan_none M X cost e z =
    record {
      each = refl;
      fits = record {
        total = sym e;
        within = λ k h. absurd (omega arith);
        served = λ k h. absurd (omega arith);
        under = λ k h. absurd (omega arith);
      };
      tells = z;
      first = λ y r. record { cheap = omega arith; small = λ _ k h _. absurd (omega arith) };
    }

-- where something reaches X, there is an optimal plan
pub optimal_exists : (M : Model) (i X : ℕ) (y : ℕ → ℕ) → FeasibleTo M i X y → (x : ℕ → ℕ) × OptimalTo M i X x
optimal_exists M i X y r =
    let w = found M i X (best_to M i X) y (best_to_right M i X) r in
    (at w.0.plan, leads_optimal M i X w.0 w.2)

-- and it is one
pub optimal_unique : (M : Model) (i X : ℕ) (x y : ℕ → ℕ) → OptimalTo M i X x → OptimalTo M i X y → (k : ℕ) → k < i → x k ≡ y k
optimal_unique M i X x y b c = precedes_anti (λ z. cost_to M z i) i x y (b.first y c.feasible) (c.first x b.feasible)

pub plan_unique : (M : Model) (i X : ℕ) (f g : Solution) → PlanOf M i X f → PlanOf M i X g → f.plan ≡ g.plan
plan_unique M i X f g a b =
    ext_get_or 0 f.plan g.plan (a.each ∙ sym b.each)
    (λ k h. optimal_unique M i X (at f.plan) (at g.plan) (leads_optimal M i X f a) (leads_optimal M i X g b) k (omega (arith, a.each)))
