-- What is kept of the intervals from l on: a row of costs for the states after k periods, and for each period what it makes in each state.
-- Main statements: `ran_none` and `ran_more`, what a loop over the periods keeps; `back_plan`, the interval read back. Assumes nothing.
use Rattle.std.specs.Prelude.{◌≡◌, refl, List, [], ◌∷◌, ◌++◌, length, replicate, None, Some}
use Rattle.std.proofs.Math.Path.{sym, ap}
use Rattle.std.proofs.Common.{◌∙◌, ⊎_elim, eq-or-lt_of_le, le_of_suc-le-suc, mul-le-mul_right, arith}
use Prim.Native.Nat.{ℕ, zero, suc, ◌+◌, ◌-◌, ◌*◌, ◌/◌, ◌%◌, ◌≤◌, ◌<◌}
use Rattle.std.proofs.Math.Decide.{ℕ_discrete}
use Rattle.day.specs.Sums.{at}
use Rattle.theory.specs.Basics.{pick, pick_yes, pick_no}
use Rattle.theory.specs.Model.{Model}
use Rattle.theory.specs.declared.Problem.{Problem as LentProblem}
use Rattle.theory.specs.Problem.{Problem, problem_with}
use Rattle.theory.specs.Stages.{Solution, begin}
use Rattle.theory.specs.Recursion.{both?}
use Rattle.theory.specs.Basics.{last, last_snoc}
use Rattle.theory.specs.Loads.{loads_to, Step, stay, one_part, one_full, loads_back}
use Rattle.equal_runs.specs.declared.LoadSizes.{LoadSizes}
use Rattle.equal_runs.specs.declared.RunPeriod.{RunPeriod}
use Rattle.equal_runs.specs.Bounds.{marker, stage_most, row_most}
use Rattle.equal_runs.specs.States.{index_of, state_at}
use Rattle.equal_runs.specs.Told.{first_to, CostTold, AmountTold, StateTold, told_most, IsPeriod, Narrow, state_told}
use Rattle.equal_runs.specs.Fill.{RowLow, RowFilled, Advanced}

-- the problem that four tables hold, with the capacity c throughout
abbrev pub constant_with : (demand : List ℕ) (c : ℕ) (setup unit holding : List ℕ) → Problem
constant_with demand c setup unit holding = problem_with demand (replicate (length demand) c) setup unit holding

-- and a lent problem with it, whose own capacities are not read
abbrev pub lent_constant : LentProblem → ℕ → Problem
lent_constant l c = constant_with l.demand.now c l.setup.now l.unit.now l.holding.now

-- before the first period no load is made
abbrev pub start_of : ℕ → ℕ
start_of zero = 0
start_of (suc s) = marker

-- the intervals of k periods from l on, in the states up to top; period i of the interval has its amounts from i × width on
pub record Ran (M : Model) (l : ℕ) (w : LoadSizes) (k top width : ℕ) (row picks : List ℕ) : Type 0 where
  pub costs : (j d : ℕ) → d ≤ 1 → index_of j d ≤ top → CostTold (k * stage_most) (at row (index_of j d)) (first_to M l w k j d)
  pub amounts : (i j d : ℕ) → i < k → d ≤ 1 → index_of j d ≤ top
      → AmountTold (at picks (i * width + index_of j d)) (first_to M l w (suc i) j d)

-- what `run` asks: up to 96 periods in each table, and the states and their amounts in the two areas
pub record Runnable (p : Problem) (l count top width : ℕ) (row picks : List ℕ) : Type 0 where
  pub few : count ≤ 96
  pub demands : l + count ≤ length p.demand
  pub setups : l + count ≤ length p.setup
  pub units : l + count ≤ length p.unit
  pub holdings : l + count ≤ length p.holding
  pub low : top ≤ 193
  pub wide : top < width
  pub states : top < length row
  pub amounts : count * width ≤ length picks

begin_yes : {A : Type 0} (d : Dec A) → A → begin d ≡ Some (record { cost = 0; plan = [] })
begin_yes (yes _) h = refl
begin_yes (no n) h = absurd (n h)

begin_no : {A : Type 0} (d : Dec A) → ¬ A → begin d ≡ None
begin_no (yes a) h = absurd (h a)
begin_no (no _) h = refl

start_told : (M : Model) (l : ℕ) (w : LoadSizes) (s j d : ℕ) → s ≡ index_of j d → CostTold 0 (start_of s) (first_to M l w 0 j d)
unfolding loads_to
start_told M l w zero j d e = rw (begin_yes (both? (ℕ_discrete j 0) (ℕ_discrete d 0)) (omega arith, omega arith)) (refl, omega arith)
start_told M l w (suc s) j d e =
    rw (begin_no (both? (ℕ_discrete j 0) (ℕ_discrete d 0)) (λ (p : (j ≡ 0) × (d ≡ 0)). omega (arith, p.0, p.1))) (omega arith, omega arith)

pub ran_none : (M : Model) (l : ℕ) (w : LoadSizes) (top width : ℕ) (old row picks : List ℕ)
    → RowFilled old row 0 start_of 0 top → Ran M l w 0 top width row picks
ran_none M l w top width old row picks f =
    record {
      costs = λ j d h g.
          let e : 0 + index_of j d ≡ index_of j d = omega arith in
          rw (← (ap (at row) e), f.done (index_of j d) (omega arith) g) (start_told M l w (index_of j d) j d refl);
      amounts = λ i j d h. absurd (omega arith);
    }

module _ (M : Model) (l : ℕ) (w : LoadSizes) (k top width : ℕ) (row picks row' picks' : List ℕ) (p : RunPeriod)
    (few : k < 96) (low : top ≤ 193) (wide : top < width) (here : IsPeriod M l k p) (narrow : Narrow p w)
    (ran : Ran M l w k top width row picks) (next : Advanced p w 0 top row row' (k * width) picks picks') where
  -- the state at an index, by its loads
  told_at : (j d : ℕ) → d ≤ 1 → index_of j d ≤ top
      → StateTold (k * stage_most + stage_most) (state_at p w (at row) (index_of j d)) (first_to M l w (suc k) j d)
  told_at j d h g =
      let a : index_of j d / 2 ≡ j = omega arith in
      let b : index_of j d % 2 ≡ d = omega arith in
      rw (a, b)
      (state_told M l k p w here narrow (k * stage_most) (omega arith) (at row) j d (omega arith) h
      (λ j' d' u v. ran.costs j' d' (omega arith) (omega arith)))

  -- One period more.
  pub ran_more : Ran M l w (suc k) top width row' picks'
  ran_more = record { costs = after; amounts = kept }
    where
      after : (j d : ℕ) → d ≤ 1 → index_of j d ≤ top
          → CostTold (suc k * stage_most) (at row' (index_of j d)) (first_to M l w (suc k) j d)
      after j d h g =
          let e : 0 + index_of j d ≡ index_of j d = omega arith in
          let f : suc k * stage_most ≡ k * stage_most + stage_most = omega arith in
          rw (f, ← (ap (at row') e), next.costs.done (index_of j d) (omega arith) g) (told_at j d h g).told

      kept : (i j d : ℕ) → i < suc k → d ≤ 1 → index_of j d ≤ top
          → AmountTold (at picks' (i * width + index_of j d)) (first_to M l w (suc i) j d)
      kept i j d h f g =
          let same = next.amounts.low (i * width + index_of j d) in
          ⊎_elim
          (λ (e : i ≡ k). rw (e, next.amounts.done (index_of j d) (omega arith) g) (told_at j d f g).amount)
          (λ (u : i < k). rw (same (omega (arith, mul-le-mul_right width u))) (ran.amounts i j d u f g))
          (eq-or-lt_of_le (le_of_suc-le-suc h))

-- how far before a state the one stands from which the amount x leads to it
abbrev pub step_of : ℕ → ℕ → ℕ
step_of full x = pick (ℕ_discrete x 0) 0 (pick (ℕ_discrete x full) 2 1)

-- the amounts of k periods that lead to the state at s, read from the last on
abbrev pub back_of : ℕ → ℕ → List ℕ → ℕ → ℕ → List ℕ
back_of full width picks zero s = []
back_of full width picks (suc k) s =
    back_of full width picks k (s - step_of full (at picks (k * width + s))) ++ (at picks (k * width + s) ∷ [])

pub step_none : (full x : ℕ) → x ≡ 0 → step_of full x ≡ 0
step_none full x h = pick_yes (ℕ_discrete x 0) 0 _ h

pub step_full : (full x : ℕ) → (x ≡ 0 → ⊥) → x ≡ full → step_of full x ≡ 2
step_full full x h g = pick_no (ℕ_discrete x 0) 0 _ h ∙ pick_yes (ℕ_discrete x full) 2 1 g

pub step_part : (full x : ℕ) → (x ≡ 0 → ⊥) → (x ≡ full → ⊥) → step_of full x ≡ 1
step_part full x h g = pick_no (ℕ_discrete x 0) 0 _ h ∙ pick_no (ℕ_discrete x full) 2 1 g

begin_plan : {A : Type 0} (d : Dec A) (f : Solution) → begin d ≡ Some f → f.plan ≡ []
begin_plan (yes _) f e = let q : ◌≡◌ {A = Solution} (record { cost = 0; plan = [] }) f = cc in sym (ap (λ (g : Solution). g.plan) q)
begin_plan (no _) f e = let z : ◌≡◌ {A = ℕ} 0 1 = cc in absurd (omega arith)

-- what a period made tells where it began
record Came (full j d x j' d' : ℕ) : Type 0 where
  index : index_of j d - step_of full x ≡ index_of j' d'
  few : d' ≤ d

came : (full part j d : ℕ) {x j' d' : ℕ} → part < full → (0 < d → 0 < part) → Step full part j d x j' d' → Came full j d x j' d'
came full part j d less real stay = record { index = omega (arith, step_none full 0 refl); few = omega arith }
came full part j d less real (one_part h) =
    record { index = omega (arith, step_part full part (λ e. omega (arith, real h)) (λ e. omega arith)); few = omega arith }
came full part j d less real (one_full h) =
    record { index = omega (arith, step_full full full (λ e. omega arith) refl); few = omega arith }

-- The amounts read back are the first of the intervals to the state.
module _ (M : Model) (l : ℕ) (w : LoadSizes) (count top width : ℕ) (row picks : List ℕ)
    (less : w.part < w.full) (ran : Ran M l w count top width row picks) where
  pub back_plan : (k : ℕ) → k ≤ count → (j d : ℕ) → d ≤ 1 → (0 < d → 0 < w.part) → index_of j d ≤ top → (f : Solution)
      → first_to M l w k j d ≡ Some f → back_of w.full width picks k (index_of j d) ≡ f.plan
  unfolding loads_to
  back_plan zero h j d a b g f e = sym (begin_plan (both? (ℕ_discrete j 0) (ℕ_discrete d 0)) f e)
  back_plan (suc k) h j d a b g f e =
      let back = loads_back M l w.full w.part k j d f e in
      let from = came w.full w.part j d less b back.step in
      let amount : AmountTold (at picks (k * width + index_of j d)) (Some f) = rw e at (ran.amounts k j d h a g) in
      let made : at picks (k * width + index_of j d) ≡ back.x = amount ∙ ap last back.plan ∙ last_snoc back.before.plan back.x in
      let rest = back_plan k (omega arith) back.j' back.d' (omega (arith, from.few)) (λ q. b (omega (arith, from.few)))
      (omega (arith, from.index)) back.before back.was in
      rw (made, from.index, rest) (sym back.plan)

-- no number of a row is near the top of 64 bits
pub row_low : (M : Model) (l : ℕ) (w : LoadSizes) (k top width : ℕ) (row picks : List ℕ)
    → Ran M l w k top width row picks → k ≤ 96 → top < length row → RowLow row top
row_low M l w k top width row picks ran few inside = record { inside = inside; low = low }
  where
    low : (s : ℕ) → s ≤ top → at row s ≤ row_most
    low s h =
        let j : ℕ = s / 2 in
        let d : ℕ = s % 2 in
        let e : index_of (s / 2) (s % 2) ≡ s = omega arith in
        let t = told_most (k * stage_most) (at row (index_of j d)) (first_to M l w k j d) (ran.costs j d (omega arith) (omega arith)) in
        omega (arith, ap (at row) e)
