-- Laws of one trial: what the loops of the greedy rule tell is what the rule gives by itself for the day with starts taken as free.
-- Main statements: `trial_none`, `trial_some`; `trial_feasible`, its plan is one of the day. Assumes nothing.
use Rattle.std.proofs.Common.{◌≡◌, refl, sym, ap, ◌∙◌, subst, Option, Some, None, List, ℕ, arith, length, replicate}
use Rattle.std.proofs.lemmas.List.{length-replicate, get_or-replicate}
use Rattle.day.specs.Sums.{at, length-list_of}
use Rattle.day.specs.Day.{Day, periods, total, net_end}
use Rattle.day.specs.Drops.{starts_free, Ruled}
use Rattle.greedy.specs.Search.{Told}
use Rattle.weigher.specs.Walk.{FeasiblePlan}
use Rattle.theory.specs.Model.{Model, OptimalTo, FeasibleTo}
use Rattle.theory.specs.Problem.{model_of, model_rising, model_unlimited}
use Rattle.theory.specs.Net.{net_need, net_needs, problem_of, floor_is}
use Rattle.theory.specs.Store.{Loose}
use Rattle.theory.proofs.Base.{loose_feasible, loose_plan}
use Rattle.theory.specs.FreeSetups.{key}
use Rattle.theory.specs.Greedy.{greedy_to, greedy_to_same}
use Rattle.theory.specs.Batches.{Fresh, Solves, greedy}
use Rattle.theory.proofs.Batches.{greedy_right}
use Rattle.theory.specs.Drops.{Plans}
use Rattle.theory.proofs.Drops.{plans_ruled, ruled_plans, trial_loose, trial_free, lower_feasible}
use Rattle.drops.specs.Ready.{IsReady}
use Rattle.drops.specs.Trial.{Triable}

module _ (d : Day) (net keys allowances plan : List ℕ) (ready : IsReady d net keys) (ok : Triable d allowances plan) where
  abbrev e : Day
  e = starts_free allowances d

  abbrev n : ℕ
  n = periods d

  abbrev M : Model
  M = model_of (problem_of e)

  loose : Loose e
  loose = trial_loose d ready.loose allowances

  -- as many net needs as periods
  pub net_size : length net ≡ n
  net_size = ap (λ (l : List ℕ). length l) ready.needs ∙ length-list_of (net_need d) n

  floor_total : M.floor n ≡ total e
  floor_total = floor_is e loose.fits.nonempty n (omega arith) ∙ net_end e

  -- the slots before, in which nothing is made
  abbrev nothing : List ℕ
  nothing = replicate n 0

  fresh : Fresh n nothing
  fresh = record { long = omega (arith, length-replicate {A = ℕ} n 0); zeros = λ k l. get_or-replicate {A = ℕ} n k 0 0 l }

  -- the rule by the cells is the rule
  by_cells : greedy_to (at keys) (at allowances) (at net) n nothing ≡ greedy M n (at (net_needs d)) nothing
  unfolding greedy
  by_cells =
      ap (λ (l : List ℕ). greedy_to (at keys) (at allowances) (at l) n nothing) ready.needs
      ∙ greedy_to_same (at keys) (key M n) (at allowances) n ready.keys (at (net_needs d)) n (omega arith) nothing

  solves_plans : (o : Option (List ℕ)) → Solves M n nothing o → Plans e o
  solves_plans None s = λ x f. s x (subst (λ (T : ℕ). FeasibleTo M n T x) (sym floor_total) ((loose_feasible e loose x).0 f))
  solves_plans (Some g) s = (
    s.each ∙ length-replicate n 0,
    (loose_plan e loose (at g)).1 (subst (λ (T : ℕ). OptimalTo M n T (at g)) floor_total s.optimal),
  )

  -- what the loops have told
  given : (o : Option (List ℕ)) → greedy_to (at keys) (at allowances) (at net) (length net) nothing ≡ o → Ruled e o
  given o is =
      plans_ruled e loose (trial_free d allowances) o
      (solves_plans o
      (subst (Solves M n nothing) (sym same ∙ is)
      (greedy_right M (model_rising (problem_of e)) (model_unlimited (problem_of e)) n (trial_free d allowances) nothing fresh (at (net_needs d))
      (λ k l. refl))))
    where
      same : greedy_to (at keys) (at allowances) (at net) (length net) nothing ≡ greedy M n (at (net_needs d)) nothing
      same = ap (λ (m : ℕ). greedy_to (at keys) (at allowances) (at net) m nothing) net_size ∙ by_cells

  abbrev Tells : (slots : List ℕ) → Option (Unit {0}) → List ℕ → Type 0
  Tells slots r after = Told r (greedy_to (at keys) (at allowances) (at net) (length net) slots) after

  module _ (slots after : List ℕ) (cleared : slots ≡ replicate (length plan) 0) where
    clear : slots ≡ nothing
    clear = cleared ∙ ap (λ (m : ℕ). replicate m 0) ok.size

    pub trial_none : Tells slots None after → Ruled e None
    trial_none told = given None (rw clear at told)

    pub trial_some : Tells slots (Some tt) after → Ruled e (Some after)
    trial_some told = given (Some after) (rw clear at told)

  -- and its plan keeps the conditions of the day
  pub trial_feasible : (after : List ℕ) → Ruled e (Some after) → FeasiblePlan d after
  trial_feasible after r =
      let p = ruled_plans e loose (trial_free d allowances) (Some after) r in
      record {
        weighable = record { few = ready.limits.limits.few; lengths = ready.limits.limits.lengths; amounts = omega (arith, p.0) };
        feasible = lower_feasible d allowances (at after) ok.low p.1.feasible;
      }
