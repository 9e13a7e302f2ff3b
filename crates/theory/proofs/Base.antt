-- A day's plan is its problem's: the conditions on a plan are the model's rules, and sum (1) is the model's cost and what every plan pays alike.
-- Main statements: `store_optimal`, a plan is the day's just where it is the problem's under the day's ceilings; `loose_optimal`, and where it is the
-- problem's without, on a day whose stores can't bind. Assumes nothing.
use Rattle.std.specs.Prelude.{◌≡◌, refl, ◌↔◌, ℕ, zero, suc, ◌+◌, ◌-◌, ◌*◌, ◌≤◌, ◌<◌}
use Rattle.std.proofs.Common.{sym, ap, subst, arith}
use Rattle.day.specs.Sums.{at, sum_to, sum_grows}
use Rattle.day.specs.Day.{Day, periods, demand_to, total, net_to}
use Rattle.day.specs.Plan.{Feasible, Optimal, Precedes, inventory, cost}
use Rattle.day.specs.Plan as Plan
use Rattle.theory.specs.Model.{Model, FeasibleTo, OptimalTo, cost_to}
use Rattle.theory.specs.Problem.{model_under, model_of, ceiling_in}
use Rattle.theory.specs.Problem as Problem
use Rattle.theory.specs.Net.{rate_of, problem_of, Fits, rate_is, periods_is, net_covers, floor_is, total_is}
use Rattle.theory.specs.Store.{ceilings_of, store_model, Loose}
use Rattle.theory.proofs.Store.{ceiling_is, above_net}

-- the charge that every plan holds after i periods: A − R while A lasts, then 0, and Z at the end
abbrev held_by : Day → ℕ → ℕ
held_by d i = d.opening + net_to d i - demand_to d i

-- what every plan pays to hold it, at the rates of i periods, and on A before period 1
abbrev standing_to : Day → ℕ → ℕ
standing_to d i = at d.holding 0 * d.opening + sum_to (λ k. rate_of d.holding k * held_by d (suc k)) i

-- what the last rate adds on Z where the table of h goes on past n, which `Fits` does not rule out; 0 for a table of n entries
abbrev past_end : Day → ℕ
past_end d = at d.holding (periods d) * d.closing

-- costs that differ by what every plan pays order plans alike
precedes_shift : (f g : (ℕ → ℕ) → ℕ) (a b n : ℕ) (x y : ℕ → ℕ) → f x + a ≡ g x + b → f y + a ≡ g y + b → Precedes f n x y → Precedes g n x y
precedes_shift f g a b n x y p q r = record { cheap = omega (arith, r.cheap); small = λ e. r.small (omega arith) }

-- A day and the model of its problem under ceilings U.
module _ (d : Day) (fits : Fits d) (U : ℕ → ℕ) where
  abbrev M : Model
  M = model_under (problem_of d) U

  abbrev n : ℕ
  n = periods d

  floor_here : (i : ℕ) → i ≤ n → M.floor i ≡ net_to d i
  floor_here = floor_is d fits.nonempty

  -- the conditions are the model's rules, where its ceiling and the store limit say the same of a plan
  rules : (x : ℕ → ℕ) → Feasible d x → ((k : ℕ) → k < n → sum_to x (suc k) ≤ U (suc k)) → FeasibleTo M n (total d) x
  rules x f under =
      record {
        total = omega (arith, f.ends refl);
        within = f.within;
        served = λ k l. omega (arith, floor_here (suc k) l, above_net d n x (omega arith) f k l);
        under = under;
      }

  conditions : (x : ℕ → ℕ) → FeasibleTo M n (total d) x → ((k : ℕ) → k < n → inventory d x (suc k) ≤ at d.store k) → Feasible d x
  conditions x f stored =
      record {
        served = λ k l. omega (arith, floor_here (suc k) l, net_covers d (suc k) l, f.served k l);
        ends = λ _. omega (arith, f.total, fits.used);
        within = f.within;
        stored = stored;
      }

  -- Sum (1) through i periods, with what the next pays on the charge before it, is the model's cost and what every plan pays.
  cost_through : (x : ℕ → ℕ) → FeasibleTo M n (total d) x → (i : ℕ) → i ≤ n
      → Plan.cost_to d x i + at d.holding i * inventory d x i ≡ cost_to M x i + standing_to d i
  cost_through x f zero l =
      let e : inventory d x 0 ≡ d.opening = omega arith in
      omega (arith, ap (λ (v : ℕ). at d.holding 0 * v) e)
  cost_through x f (suc k) l =
      let floor = floor_here (suc k) l in
      let covers = net_covers d (suc k) l in
      let served = f.served k l in
      let h = at d.holding in
      let above = sum_to x (suc k) - M.floor (suc k) in
      let split : inventory d x (suc k) ≡ above + held_by d (suc k) = omega arith in
      let left = ap (λ (v : ℕ). h k * v) split in
      let next = ap (λ (v : ℕ). h (suc k) * v) split in
      let rate = ap (λ (v : ℕ). v * above) (rate_is d.holding k) in
      omega (arith, cost_through x f k (omega arith), left, next, rate)

  -- so sum (1) and the model's cost differ by what every plan pays
  cost_is : (x : ℕ → ℕ) → FeasibleTo M n (total d) x → cost d x + past_end d ≡ cost_to M x n + standing_to d n
  cost_is x f =
      let e : inventory d x n ≡ d.closing = omega (arith, f.total, fits.used) in
      omega (arith, cost_through x f n (omega arith), ap (λ (v : ℕ). at d.holding n * v) e)

  -- where the same plans keep the rules, the same is the plan
  module _ (alike : (x : ℕ → ℕ) → Feasible d x ↔ FeasibleTo M n (total d) x) where
    same_plan : (x : ℕ → ℕ) → Optimal d x ↔ OptimalTo M n (total d) x
    same_plan x = (
      λ o.
          record {
            feasible = (alike x).0 o.feasible;
            first = λ y f.
                precedes_shift (cost d) (λ z. cost_to M z n) (past_end d) (standing_to d n) n x y
                (cost_is x ((alike x).0 o.feasible)) (cost_is y f) (o.first y ((alike y).1 f));
          },
      λ o.
          record {
            feasible = (alike x).1 o.feasible;
            first = λ y f.
                precedes_shift (λ z. cost_to M z n) (cost d) (standing_to d n) (past_end d) n x y
                (sym (cost_is x o.feasible)) (sym (cost_is y ((alike y).0 f))) (o.first y ((alike y).0 f));
          },
    )

    -- by the problem's own periods and total, as the loops have them
    problem_plan : (x : ℕ → ℕ) → Optimal d x ↔ OptimalTo M (Problem.periods (problem_of d)) (Problem.total (problem_of d)) x
    problem_plan x =
        subst (λ (T : ℕ). Optimal d x ↔ OptimalTo M (Problem.periods (problem_of d)) T x) (sym (total_is d fits.nonempty))
        (subst (λ (m : ℕ). Optimal d x ↔ OptimalTo M m (total d) x) (sym (periods_is d)) (same_plan x))

-- Under its store limits, for the full path: a day where A alone is nowhere above R + s.
module _ (d : Day) (fits : Fits d) (room : (k : ℕ) → k < periods d → d.opening ≤ demand_to d (suc k) + at d.store k) where
  pub store_feasible : (x : ℕ → ℕ) → Feasible d x ↔ FeasibleTo (store_model d) (periods d) (total d) x
  store_feasible x = (
    λ f.
        rules d fits (ceiling_in (ceilings_of d)) x f
        (λ k l. omega (arith, ceiling_is d k l, sum_grows x (suc k) (periods d) l, f.ends refl, f.stored k l)),
    λ f. conditions d fits (ceiling_in (ceilings_of d)) x f (λ k l. omega (arith, ceiling_is d k l, f.under k l, room k l)),
  )

  pub store_plan : (x : ℕ → ℕ) → Optimal d x ↔ OptimalTo (store_model d) (periods d) (total d) x
  store_plan = same_plan d fits (ceiling_in (ceilings_of d)) store_feasible

  pub store_optimal : (x : ℕ → ℕ)
      → Optimal d x ↔ OptimalTo (store_model d) (Problem.periods (problem_of d)) (Problem.total (problem_of d)) x
  store_optimal = problem_plan d fits (ceiling_in (ceilings_of d)) store_feasible

-- Without a ceiling, for the short paths: a day whose stores can't bind.
module _ (d : Day) (loose : Loose d) where
  pub loose_feasible : (x : ℕ → ℕ) → Feasible d x ↔ FeasibleTo (model_of (problem_of d)) (periods d) (total d) x
  loose_feasible x = (
    λ f.
        rules d loose.fits (λ _. Problem.total (problem_of d)) x f
        (λ k l. omega (arith, sum_grows x (suc k) (periods d) l, f.ends refl, total_is d loose.fits.nonempty)),
    λ f.
        conditions d loose.fits (λ _. Problem.total (problem_of d)) x f
        (λ k l. omega (arith, loose.takes k l, loose.fits.used, sum_grows x (suc k) (periods d) l, f.total)),
  )

  pub loose_plan : (x : ℕ → ℕ) → Optimal d x ↔ OptimalTo (model_of (problem_of d)) (periods d) (total d) x
  loose_plan = same_plan d loose.fits (λ _. Problem.total (problem_of d)) loose_feasible

  pub loose_optimal : (x : ℕ → ℕ)
      → Optimal d x ↔ OptimalTo (model_of (problem_of d)) (Problem.periods (problem_of d)) (Problem.total (problem_of d)) x
  loose_optimal = problem_plan d loose.fits (λ _. Problem.total (problem_of d)) loose_feasible
