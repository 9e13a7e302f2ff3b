-- What a path's answer says of the day and its plan, over the contracts of the paths.
-- Main statements: `planned_iff`, `refused_first`, `cheapest_first`, which stand for the full path as `full_planned_iff`,
-- `full_refused_first`, `full_cheapest_first`; `free_in_turn_ends`, `free_in_turn`, of the greedy rule.
-- Assumes nothing.
use Rattle.std.proofs.lemmas.Option.{none-some}
use Rattle.std.specs.Prelude.{◌≡◌, refl, [], ◌∷◌, ◌↔◌, ℕ, ◌<◌, None, Result, Ok, Err}
use Rattle.std.proofs.Common.{sym, ◌∙◌, arith}
use Rattle.day.specs.declared.Refusal.{Refusal}
use Rattle.day.specs.declared.Totals.{Totals}
use Rattle.day.specs.Sums.{at}
use Rattle.day.specs.Day.{Day, periods, total, max_total}
use Rattle.day.specs.Plan.{Feasible}
use Rattle.day.specs.InTurn.{ServedTo}
use Rattle.day.specs.Refusals.{first, day_tests, shortage, FirstShort, paid_setup, low_store}
use Rattle.day.specs.Tests.{gives_is, first_passed, first_one, first_two}
use Rattle.day.specs.Figures.{first_value}
use Rattle.day.specs.Outcome.{Memory, sizes_of, Path, Roomy, refusal, roomy_refusal, Runs}
use Rattle.day.specs.Paths.{full, free}
use Rattle.checks.specs.Passed.{DayLimits, day_passes, free_passed, Admitted, admitted}
use Rattle.theory.specs.Order.{smaller_means}
use Rattle.theory.specs.FreeSetups.{Free}
use Rattle.theory.specs.Problem.{model_of}
use Rattle.theory.specs.Net.{problem_of, limits_fit}
use Rattle.theory.specs.Store.{Loose}
use Rattle.theory.proofs.Loose.{limits_loose}
use Rattle.theory.proofs.InTurn.{in_turn_optimal, in_turn_serves}
use Rattle.theory.proofs.Demands.{plan_unique, shortage_iff, shortage_names}
use Rattle.theory.specs.Calls.{IsPlan, CheapestFirst}

-- A day within the limits (1 to 4, 14) and of the path's kind, with memory that is long enough: only 7 can be refused.
module _ (P : Path) (d : Day) (m : Memory) (limits : DayLimits P.limit d) (room : Roomy P d (sizes_of m)) (kind : first (P.own d) ≡ None) where
  pub only_shortage : refusal P d (sizes_of m) ≡ shortage d
  only_shortage =
      roomy_refusal P d (sizes_of m) room kind
      ∙ (first_passed (day_tests P.limit d) (shortage d ∷ []) (day_passes d limits) ∙ first_one (shortage d))

  -- The answer is a plan exactly if some amounts keep the conditions.
  pub planned_iff : (r : Result Totals Refusal) (after : Memory) → Runs P d m r after → IsPlan r ↔ ((x : ℕ → ℕ) × Feasible d x)
  planned_iff (Err q) after runs =
      (λ empty. absurd empty, λ w. none-some q (sym ((shortage_iff d (limits_fit limits)).1 w) ∙ (sym only_shortage ∙ gives_is runs.0)))
  planned_iff (Ok t) after runs = (λ _. (at after.slots, runs.1.plan.feasible), λ _. tt)

  -- Otherwise it is refusal 7 with the first period for which no amounts up to it keep the conditions through it.
  pub refused_first : (q : Refusal) (after : Memory) → Runs P d m (Err q) after → FirstShort d q
  refused_first q after runs = shortage_names d (limits_fit limits) q (sym only_shortage ∙ gives_is runs.0)

-- so it is with the answer's own cost
pub cheapest_first : (P : Path) (d : Day) (m : Memory) (t : Totals) (after : Memory) → Runs P d m (Ok t) after
    → CheapestFirst d (at after.slots) t.cost
cheapest_first P d m t after runs y f =
    let q = runs.1.plan.first y f in
    let e = first_value runs.1.counts in
    (omega (arith, q.cheap), λ same. smaller_means (periods d) (at after.slots) y (q.small (sym e ∙ same)))

-- the full path, which has no test of its own
module _ (d : Day) (m : Memory) (limits : DayLimits max_total d) (room : Roomy full d (sizes_of m)) where
  pub full_planned_iff : (r : Result Totals Refusal) (after : Memory) → Runs full d m r after → IsPlan r ↔ ((x : ℕ → ℕ) × Feasible d x)
  full_planned_iff = planned_iff full d m limits room refl

  pub full_refused_first : (q : Refusal) (after : Memory) → Runs full d m (Err q) after → FirstShort d q
  full_refused_first = refused_first full d m limits room refl

pub full_cheapest_first : (d : Day) (m : Memory) (t : Totals) (after : Memory) → Runs full d m (Ok t) after
    → CheapestFirst d (at after.slots) t.cost
full_cheapest_first = cheapest_first full

-- An accepted day of the free path has no setup cost, and stores that can't bind;
module _ (d : Day) (m : Memory) (t : Totals) (after : Memory) (runs : Runs free d m (Ok t) after) where
  ok : Admitted free d (sizes_of m)
  ok = admitted free d (sizes_of m) runs.0

  unpaid : Free (model_of (problem_of d)) (periods d)
  unpaid = free_passed d (first_two (paid_setup d) (low_store d) ok.own).0

  open_day : Loose d
  open_day = limits_loose (paid_setup d) ok.day ok.own

  -- the greedy rule, watt-hour by watt-hour, comes to its end on it,
  pub free_in_turn_ends : (x : ℕ → ℕ) × ServedTo d (total d) x
  free_in_turn_ends = in_turn_serves d open_day unpaid (at after.slots) runs.1.plan.feasible

  -- and makes the answer's plan, though the path serves several watt-hours at once.
  pub free_in_turn : (x : ℕ → ℕ) → ServedTo d (total d) x → (k : ℕ) → k < periods d → at after.slots k ≡ x k
  free_in_turn x served = plan_unique d (at after.slots) x runs.1.plan (in_turn_optimal d open_day unpaid x served)
