-- Runs and loads of the equal path itself, over its contract: how many full-load periods its plan has.
-- Main statements: `equal_run_loads`, of each run; `day_divided`, `equal_day_loads`: a day is divided into runs, and the answer's totals are the sums over
-- them; `equal_no_loads`, of capacity 0. Assumes nothing.
use Rattle.std.specs.Prelude.{◌≡◌, refl, ◌⊎◌, ℕ, zero, suc, ◌+◌, ◌%◌, ◌≤◌, ◌<◌, ltb, Ok}
use Rattle.std.proofs.Common.{sym, ap, ap₂, ◌∙◌, subst, inl, inr, ⊎_elim, eq-zero-or-pos, arith, lt-ltb}
use Rattle.day.specs.declared.Totals.{Totals}
use Rattle.day.specs.declared.Loads.{Loads}
use Rattle.day.specs.Sums.{at, sum_to, sum_grows, below}
use Rattle.day.specs.Day.{Day, periods, net_to, net_before, net_end}
use Rattle.day.specs.Plan.{inventory}
use Rattle.day.specs.Refusals.{unequal, low_store}
use Rattle.day.specs.Tests.{first_two}
use Rattle.day.specs.Figures.{same_values}
use Rattle.day.specs.Outcome.{Memory, sizes_of}
use Rattle.day.specs.Paths.{equal}
use Rattle.day.specs.Loads.{Run, RunLoads, Divided, begin, then, loads_of, loads_through}
use Rattle.day.specs.Loads.{full_at, part_at, full_to, part_to, one_if, made_in, idle_none, EqualRuns}
use Rattle.checks.specs.Passed.{equal_passed, Admitted, admitted}
use Rattle.theory.specs.Model.{Model, OptimalTo}
use Rattle.theory.specs.FullLoads.{few_loads}
use Rattle.theory.specs.FlorianKlein.{few_parts}
use Rattle.theory.specs.Problem.{model_of, model_rising, model_unlimited}
use Rattle.theory.specs.Net.{problem_of, floor_is}
use Rattle.theory.specs.Store.{Loose}
use Rattle.theory.proofs.Loose.{limits_loose}
use Rattle.theory.proofs.Base.{loose_plan}

-- Whatever is made, the day's periods are runs one after another.
module _ (d : Day) (x : ℕ → ℕ) where
  -- the first `from` of k periods are divided, and in the run that began there the charge has been above 0 since
  record Under (k : ℕ) : Type 0 where
    from : ℕ
    inside : from ≤ k
    divided : Divided d x from
    begins : (from ≡ 0) ⊎ (inventory d x from ≡ 0)
    above : (i : ℕ) → i < suc k → from < i → 0 < inventory d x i

  ended : (k : ℕ) → (w : Under k) → suc k ≤ periods d → (suc k ≡ periods d) ⊎ (inventory d x (suc k) ≡ 0) → Divided d x (suc k)
  ended k w l ends =
      then w.from (suc k) w.divided
      (record {
        ahead = omega (arith, w.inside);
        inside = l;
        begins = w.begins;
        ends = ends;
        above = λ i u v. w.above i v u;
      })

  under : (k : ℕ) → k ≤ periods d → Under k
  under zero l = record { from = 0; inside = omega arith; divided = begin; begins = inl refl; above = λ i u v. absurd (omega arith) }
  under (suc k) l = let w = under k (omega arith) in ⊎_elim (closed w) (going w) (eq-zero-or-pos (inventory d x (suc k)))
    where
      closed : Under k → inventory d x (suc k) ≡ 0 → Under (suc k)
      closed w e =
          record { from = suc k; inside = omega arith; divided = ended k w l (inr e); begins = inr e; above = λ i u v. absurd (omega arith) }

      going : Under k → 0 < inventory d x (suc k) → Under (suc k)
      going w some_left =
          record {
            from = w.from;
            inside = omega (arith, w.inside);
            divided = w.divided;
            begins = w.begins;
            above = below (λ (i : ℕ). w.from < i → 0 < inventory d x i) (suc k) w.above (λ _. some_left);
          }

  pub day_divided : Divided d x (periods d)
  day_divided = go (periods d) refl
    where
      go : (n : ℕ) → n ≡ periods d → Divided d x n
      go zero e = begin
      go (suc k) e = ended k (under k (omega arith)) (omega arith) (inl e)

-- An accepted call, with the plan and the loads that it answers with.
module _ (d : Day) (m : Memory) (t : Totals) (l : Loads) (after : Memory) (call : EqualRuns d m (Ok (t, l)) after) where
  abbrev x : ℕ → ℕ
  x = at after.slots

  -- the capacities, which are all c 0
  abbrev c : ℕ → ℕ
  c = at d.capacity

  abbrev M : Model
  M = model_of (problem_of d)

  abbrev n : ℕ
  n = periods d

  accepted : Admitted equal d (sizes_of m)
  accepted = admitted equal d (sizes_of m) call.runs.0

  constant : (k : ℕ) → k < n → c k ≡ c 0
  constant = equal_passed d (first_two (unequal d) (low_store d) accepted.own).0

  within : (k : ℕ) → k < n → x k ≤ c k
  within = call.runs.1.plan.feasible.within

  loose : Loose d
  loose = limits_loose (unequal d) accepted.day accepted.own

  floor_here : (i : ℕ) → i ≤ n → M.floor i ≡ net_to d i
  floor_here = floor_is d loose.fits.nonempty

  best : OptimalTo M n (M.floor n) x
  best =
      subst (λ (X : ℕ). OptimalTo M n X x) (sym (floor_here n (omega arith) ∙ net_end d)) ((loose_plan d loose x).0 call.runs.1.plan)

  -- the answer's loads, from its figures
  counted : l ≡ loads_through c x n
  counted =
      let same = same_values call.loads in
      let full : l.full ≡ full_to c x n = cc in
      let part : l.part ≡ part_to c x n = cc in
      ap₂ (λ (f p : ℕ). record { full = f; part = p }) full part

  -- With a capacity above 0, in each run that makes W exactly W ÷ c rounded down periods make c, and exactly one is part-loaded if the remainder is
  -- above 0, none if it is 0.
  pub equal_run_loads : 0 < c 0 → (a b : ℕ) → Run d x a b → RunLoads c x a b
  equal_run_loads pos a b run =
      (few_loads c x a b
      (few_parts M (model_rising (problem_of d)) (model_unlimited (problem_of d)) n (c 0) pos constant x best a b run.ahead run.inside never)
      (omega (arith, run.ahead))).0
    where
      -- while A lasts the floor is 0, and there is charge once something is made
      never : (i : ℕ) → a < i → i < b → 0 < sum_to x i → M.floor i < sum_to x i
      never i u v made =
          let inside = run.inside in
          let floor = floor_here i (omega arith) ∙ net_before d i (omega arith) in
          omega (arith, run.above i u v)

  -- With a capacity of 0 both totals are 0.
  pub equal_no_loads : c 0 ≡ 0 → (l.full ≡ 0) × (l.part ≡ 0)
  equal_no_loads nothing = rw counted (idle_loads n (omega arith))
    where
      idle_loads : (i : ℕ) → i ≤ n → (full_to c x i ≡ 0) × (part_to c x i ≡ 0)
      idle_loads zero h = (refl, refl)
      idle_loads (suc i) h =
          let before = idle_loads i (omega arith) in
          let idle = idle_none (c i) {x = x i} (omega (arith, within i h, constant i h, nothing)) in
          (omega (arith, before.0, idle.0), omega (arith, before.1, idle.1))

  -- The answer's totals are the sums over the runs that the day is divided into.
  pub equal_day_loads : 0 < c 0 → (v : Divided d x n) → l ≡ loads_of v
  equal_day_loads pos v = counted ∙ summed v
    where
      part_more : (a b : ℕ) → Run d x a b
          → part_to c x b ≡ part_to c x a + one_if (ltb 0 (made_in x a b % c 0))
      part_more a b run =
          let q = equal_run_loads pos a b run in
          let grows = sum_grows (λ k. part_at (c k) (x k)) a b (omega (arith, run.ahead)) in
          ⊎_elim
          (λ (z : made_in x a b % c 0 ≡ 0). rw z (omega (arith, q.none z, grows)))
          (λ (some_left : 0 < made_in x a b % c 0). rw (lt-ltb 0 _ some_left) (omega (arith, q.part some_left, grows)))
          (eq-zero-or-pos (made_in x a b % c 0))

      summed : {b : ℕ} (v : Divided d x b) → loads_through c x b ≡ loads_of v
      summed begin = refl
      summed (then a b before run) =
          let old = summed before in
          let grows = sum_grows (λ k. full_at (c k) (x k)) a b (omega (arith, run.ahead)) in
          ap₂ (λ (f p : ℕ). record { full = f; part = p })
          (omega (arith, ap (λ (o : Loads). o.full) old, (equal_run_loads pos a b run).full, grows))
          (omega (arith, ap (λ (o : Loads). o.part) old, part_more a b run))
