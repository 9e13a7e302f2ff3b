-- Easier days: with no opening charge, a day that is easier in every place has a plan where the harder has one, at no higher cost.
-- The plan is the harder day's, thinned from the end: each period makes what it made, or less if less is wanted from then on.
-- Main statements: `easier_plan`, `easier_least`; `opening_matters`, with opening charge it is false; `least_one`, a day has one least cost.
-- Assumes nothing.
use Rattle.std.specs.Prelude.{◌≡◌, refl, List, [], ◌∷◌}
use Prim.Native.Nat.{ℕ, zero, suc, ◌+◌, ◌≤◌, ◌<◌}
use native.Mathlib.Omega.{arith}
use Rattle.day.specs.Sums.{at, sum_to}
use Rattle.day.specs.Day.{Day, day_of, ends_with, periods, demand_to}
use Rattle.day.specs.Plan.{inventory, cost, Feasible}
use Rattle.day.specs.Ranges.{Easier, LeastCost}
use Rattle.theory.specs.Net.{Fits}
use Rattle.theory.proofs.Demands.{optimal_exists}
use Rattle.theory.proofs.Thinned.{thinned}

-- a day that has a plan has a least cost; no plan costs less, so there is one such cost
least_exists : (d : Day) → Fits d → (x : ℕ → ℕ) → Feasible d x → (c : ℕ) × LeastCost d c
least_exists d fits x f = let w = optimal_exists d fits x f in (cost d w.0, record { plan = w.0; optimal = w.1; is = refl })

least_below : {d : Day} {c : ℕ} → LeastCost d c → (x : ℕ → ℕ) → Feasible d x → c ≤ cost d x
least_below a x f = omega (arith, (a.optimal.first x f).cheap, a.is)

pub least_one : (d : Day) (c c' : ℕ) → LeastCost d c → LeastCost d c' → c ≡ c'
least_one d c c' a b =
    omega (arith, least_below a b.plan b.optimal.feasible, least_below b a.plan a.optimal.feasible, a.is, b.is)

-- With A = 0: where the harder day has a plan,
module _ (e d : Day) (easy : Easier e d) (empty : d.opening ≡ 0) (empty' : e.opening ≡ 0) where
  -- the easier has one that costs no more,
  pub easier_plan : (x : ℕ → ℕ) → Feasible d x → (y : ℕ → ℕ) × Feasible e y × (cost e y ≤ cost d x)
  easier_plan = thinned e d easy (omega (arith, empty)) (omega (arith, empty'))

  -- and its least cost is no higher.
  pub easier_least : 0 < periods d → (x : ℕ → ℕ) → Feasible d x → (c c' : ℕ) × LeastCost d c × LeastCost e c' × (c' ≤ c)
  easier_least some x f =
      let hard = least_exists d (record { nonempty = some; used = omega arith }) x f in
      let best = hard.1 in
      let r = thinned e d easy (omega (arith, empty)) (omega (arith, empty')) best.plan best.optimal.feasible in
      let easy-one = least_exists e (record { nonempty = omega (arith, easy.size); used = omega arith }) r.0 r.1 in
      (hard.0, easy-one.0, best, easy-one.1, omega (arith, least_below easy-one.1 r.0 r.1, r.2, best.is))

-- With A above 0 it is false: needs 0 1 and A = 1 has a plan, which makes nothing; needs 0 0, no higher, has none.
abbrev charged : List ℕ → Day
charged needs = let nothing : List ℕ = 0 ∷ 0 ∷ [] in day_of needs nothing nothing nothing nothing (1 ∷ 1 ∷ []) (ends_with 1 0)

pub opening_matters :
    let e = charged (0 ∷ 0 ∷ []) in
    let d = charged (0 ∷ 1 ∷ []) in
    Easier e d × ((x : ℕ → ℕ) × Feasible d x) × ((x : ℕ → ℕ) → Feasible e x → ⊥)
opening_matters = (
  record {
    size = refl;
    demand = need;
    setup = λ k l. omega arith;
    unit = λ k l. omega arith;
    holding = λ k l. omega arith;
    closing = omega arith;
    capacity = λ k l. omega arith;
    store = λ k l. omega arith;
  },
  (λ _. 0, record { served = served; ends = λ _. refl; within = λ k l. omega arith; stored = stored }),
  λ x f. absurd (omega (arith, f.ends refl)),
)
  where
    need : (k : ℕ) → k < 2 → at (0 ∷ 0 ∷ []) k ≤ at (0 ∷ 1 ∷ []) k
    need zero l = omega arith
    need (suc zero) l = omega arith
    need (suc (suc k)) l = absurd (omega arith)

    served : (k : ℕ) → k < 2 → demand_to (charged (0 ∷ 1 ∷ [])) (suc k) ≤ 1 + sum_to (λ _. 0) (suc k)
    served zero l = omega arith
    served (suc zero) l = omega arith
    served (suc (suc k)) l = absurd (omega arith)

    stored : (k : ℕ) → k < 2 → inventory (charged (0 ∷ 1 ∷ [])) (λ _. 0) (suc k) ≤ at (1 ∷ 1 ∷ []) k
    stored zero l = omega arith
    stored (suc zero) l = omega arith
    stored (suc (suc k)) l = absurd (omega arith)
