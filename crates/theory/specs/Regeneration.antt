-- The plan of (m, N m) as the first of: the plan of (l, N l), and after it the first of the regeneration intervals of some kind from l to m.
-- Main statements: `candidate_answers`, `cover`. Assumes nothing.
use Rattle.std.specs.Prelude.{◌≡◌, refl, List, ◌++◌, ℕ, zero, suc, ◌+◌, ◌-◌, ◌*◌, ◌≤◌, ◌<◌, Option, None, Some}
use Rattle.std.proofs.Common.{sym, ap, ◌∙◌, subst, add-zero, add-suc, arith, length-append, get_or-append-add}
use Rattle.std.proofs.Math.Path.{fun_ext}
use Rattle.std.proofs.Math.Decide.{dec_le, dec_lt}
use Rattle.std.proofs.Math.ListN.{get_or-append}
use Rattle.day.specs.Sums.{at, sum_to, sum_grows}
use Rattle.day.specs.Plan.{Smaller, Precedes}
use Rattle.theory.specs.Model.{Model, Rising, Unlimited, production, cost_at, cost_to, FeasibleTo, OptimalTo}
use Rattle.theory.specs.Order.{precedes_trans, smaller_split, smaller_ext}
use Rattle.theory.specs.Stages.{Solution, Leads, Answers, best_to}
use Rattle.theory.specs.Totals.{Totals, stages, Makes, costs, totals_answers}
use Rattle.theory.specs.Recursion.{both?, PlanOf, AnswerOf, optimal_exists}
use Rattle.theory.specs.Cut.{cost_ext, feasible_ext, feasible_less, floor_grows}
use Rattle.theory.specs.Exchange.{Regeneration, last_run}
use Rattle.theory.specs.Candidates.{OneOf}

-- which amounts an interval may have: `Kind k X x`, where after its period k it has made X, and x in that period
pub record Kinds : Type 1 where
  pub Kind : ℕ → ℕ → ℕ → Type 0
  pub kind? : (k X x : ℕ) → Dec (Kind k X x)

-- the intervals from l on: their states are the totals made since l
abbrev pub runs : Model → ℕ → Kinds → Totals
runs M l K = record {
  capacity = λ k. M.capacity (l + k);
  Allowed = λ k X x. (M.floor (suc (l + k)) ≤ M.floor l + X) × K.Kind k X x;
  allowed? = λ k X x. both? (dec_le (M.floor (suc (l + k))) (M.floor l + X)) (K.kind? k X x);
  stage = λ k X x. production M (l + k) x + M.holding (l + k) * (M.floor l + X - M.floor (suc (l + k)));
}

-- the amounts from l on
abbrev pub tail : ℕ → (ℕ → ℕ) → ℕ → ℕ
tail l y k = y (l + k)

pub sum_tail : (y : ℕ → ℕ) (l j : ℕ) → sum_to y (l + j) ≡ sum_to y l + sum_to (tail l y) j
sum_tail y l zero = rw (add-zero l) (omega arith)
sum_tail y l (suc j) = rw (add-suc l j) (omega (arith, sum_tail y l j))

-- one after the other
abbrev pub glue : Option Solution → Option Solution → Option Solution
glue None b = None
glue (Some f) None = None
glue (Some f) (Some g) = Some (record { cost = f.cost + g.cost; plan = f.plan ++ g.plan })

module _ (M : Model) (rising : Rising M) (unlimited : Unlimited M) (l i : ℕ) (K : Kinds) where
  abbrev T : Totals
  T = runs M l K

  abbrev W : ℕ
  W = M.floor (l + i) - M.floor l

  -- empty after l periods, and an interval of the kind from there
  abbrev pub Via : (ℕ → ℕ) → Type 0
  Via y = FeasibleTo M l (M.floor l) y × Makes T i W (tail l y)

  via_sum : (y : ℕ → ℕ) → Via y → (j : ℕ) → sum_to y (l + j) ≡ M.floor l + sum_to (tail l y) j
  via_sum y v j = omega (arith, sum_tail y l j, v.0.total)

  via_cost : (y : ℕ → ℕ) → Via y → (j : ℕ) → cost_to M y (l + j) ≡ cost_to M y l + costs T (tail l y) j
  via_cost y v zero = rw (add-zero l) (omega arith)
  via_cost y v (suc j) =
      let e : sum_to y (suc (l + j)) ≡ M.floor l + sum_to (tail l y) (suc j) = rw (add-suc l j) at (via_sum y v (suc j)) in
      let here : cost_at M y (l + j) ≡ T.stage j (sum_to (tail l y) (suc j)) (tail l y j) = rw e refl in
      rw (add-suc l j) (omega (arith, via_cost y v j))

  pub via_feasible : (y : ℕ → ℕ) → Via y → FeasibleTo M (l + i) (M.floor (l + i)) y
  via_feasible y v =
      record {
        total = all;
        within = λ k h. at_within k h (dec_lt k l);
        served = λ k h. at_served k h (dec_lt k l);
        under = λ k h. omega (arith, sum_grows y (suc k) (l + i) h, all, unlimited (l + i) (suc k));
      }
    where
      all : sum_to y (l + i) ≡ M.floor (l + i)
      all = omega (arith, via_sum y v i, v.1.total, floor_grows M rising l (l + i) (omega arith))

      at_within : (k : ℕ) → k < l + i → Dec (k < l) → y k ≤ M.capacity k
      at_within k h (yes a) = v.0.within k a
      at_within k h (no a) =
          let e : l + (k - l) ≡ k = omega arith in
          let q : y (l + (k - l)) ≤ M.capacity (l + (k - l)) = v.1.within (k - l) (omega arith) in
          rw e at q

      at_served : (k : ℕ) → k < l + i → Dec (k < l) → M.floor (suc k) ≤ sum_to y (suc k)
      at_served k h (yes a) = v.0.served k a
      at_served k h (no a) =
          let e : l + (k - l) ≡ k = omega arith in
          let s : sum_to y (suc (l + (k - l))) ≡ M.floor l + sum_to (tail l y) (suc (k - l)) = rw (add-suc l (k - l)) at (via_sum y v (suc (k - l))) in
          let q : M.floor (suc (l + (k - l))) ≤ sum_to y (suc (l + (k - l))) = omega (arith, (v.1.allowed (k - l) (omega arith)).0) in
          rw e at q

  -- the first of those: the plan of (l, N l), and the first of the intervals
  glue_leads : (f g : Solution)
      → PlanOf M l (M.floor l) f
      → Leads (Makes T i W) (λ x. costs T x i) i g
      → Leads Via (λ x. cost_to M x (l + i)) (l + i) (record { cost = f.cost + g.cost; plan = f.plan ++ g.plan })
  glue_leads f g lf lg =
      record {
        each = length-append f.plan g.plan ∙ omega (arith, lf.each, lg.each);
        fits = via;
        tells = omega (arith, mine, lf.tells, lg.tells);
        first = ahead;
      }
    where
      p : List ℕ
      p = f.plan ++ g.plan

      low : (k : ℕ) → k < l → at f.plan k ≡ at p k
      low k h = sym (get_or-append f.plan g.plan 0 k (omega (arith, lf.each)))

      rest_at : (k : ℕ) → at p (l + k) ≡ at g.plan k
      rest_at k = rw (← lf.each) (get_or-append-add f.plan g.plan k 0)

      rest : tail l (at p) ≡ at g.plan
      rest = fun_ext rest_at

      via : Via (at p)
      via = (feasible_ext M l (M.floor l) (at f.plan) (at p) low lf.fits, subst (Makes T i W) (sym rest) lg.fits)

      mine : cost_to M (at p) (l + i) ≡ cost_to M (at f.plan) l + costs T (at g.plan) i
      mine = omega (arith, via_cost (at p) via i, ap (λ (t : ℕ → ℕ). costs T t i) rest, cost_ext M (at f.plan) (at p) l low)

      ahead : (y : ℕ → ℕ) → Via y → Precedes (λ x. cost_to M x (l + i)) (l + i) (at p) y
      ahead y v =
          let pf = lf.first y v.0 in
          let pg = lg.first (tail l y) v.1 in
          let a = mine in
          let b = via_cost y v i in
          record {
            cheap = omega (arith, pf.cheap, pg.cheap);
            small = λ e. smaller_split l (l + i) (at p) y (high y (pg.small (omega (arith, pf.cheap, pg.cheap)))) (omega arith)
                (smaller_ext l (at f.plan) y (at p) y low (λ k h. refl) (pf.small (omega (arith, pf.cheap, pg.cheap))));
          }
        where
          high : (y : ℕ → ℕ) → Smaller i (at g.plan) (tail l y) → (k : ℕ) → l ≤ k → k < l + i
              → ((j : ℕ) → k < j → j < l + i → at p j ≡ y j) → at p k ≤ y k
          high y s k a b alike =
              let e : l + (k - l) ≡ k = omega arith in
              let q : at p (l + (k - l)) ≤ y (l + (k - l)) =
              omega (arith, rest_at (k - l), s (k - l) (omega arith) (λ j c d. sym (rest_at j) ∙ alike (l + j) (omega arith) (omega arith))) in
              rw e at q

  pub glue_answers : (a b : Option Solution)
      → AnswerOf M l (M.floor l) a
      → Answers (Makes T i W) (λ x. costs T x i) i b
      → Answers Via (λ x. cost_to M x (l + i)) (l + i) (glue a b)
  glue_answers None b la lb = λ y v. la y v.0
  glue_answers (Some f) None la lb = λ y v. lb (tail l y) v.1
  glue_answers (Some f) (Some g) la lb = glue_leads f g la lb

-- the candidate that is last empty at l, where the row of each l is known
abbrev pub candidate : Model → (ℕ → ℕ → Kinds) → (ℕ → Option Solution) → ℕ → ℕ → Option Solution
candidate M K rows m l = glue (rows l) (best_to (stages (runs M l (K l m))) (m - l) (M.floor m - M.floor l))

-- o is the plan of (m, N m), or nothing, and then there is none
abbrev pub Right : Model → ℕ → Option Solution → Type 0
Right M m o = AnswerOf M m (M.floor m) o

-- a plan that is empty after l periods, and whose interval from l to m is of the kind
abbrev pub Fits : Model → Kinds → ℕ → ℕ → (ℕ → ℕ) → Type 0
Fits M K m l x = FeasibleTo M l (M.floor l) x × Makes (runs M l K) (m - l) (M.floor m - M.floor l) (tail l x)

module _ (M : Model) (rising : Rising M) (unlimited : Unlimited M) where
  -- the plans of (m, N m) are answered by what answers some of them, the optimal one among these
  covers : (m : ℕ) (Q : (ℕ → ℕ) → Type 0) (o : Option Solution) → Answers Q (λ x. cost_to M x m) m o
      → ((y : ℕ → ℕ) → Q y → FeasibleTo M m (M.floor m) y)
      → ((x : ℕ → ℕ) → OptimalTo M m (M.floor m) x → Q x)
      → Right M m o
  covers m Q None a to best = λ y r. let w = optimal_exists M m (M.floor m) y r in a w.0 (best w.0 w.1)
  covers m Q (Some f) a to best =
      record {
        each = a.each;
        fits = to (at f.plan) a.fits;
        tells = a.tells;
        first = λ y r.
            let w = optimal_exists M m (M.floor m) y r in
            precedes_trans (λ x. cost_to M x m) m (at f.plan) w.0 y (a.first w.0 (best w.0 w.1)) (w.1.first y r);
      }

  module _ (K : ℕ → ℕ → Kinds) (m : ℕ) where
    fits_feasible : (l : ℕ) → l < m → (y : ℕ → ℕ) → Fits M (K l m) m l y → FeasibleTo M m (M.floor m) y
    fits_feasible l h y v =
        let e : l + (m - l) ≡ m = omega arith in
        let go : (n : ℕ) → l + (m - l) ≡ n → Makes (runs M l (K l m)) (m - l) (M.floor n - M.floor l) (tail l y) → FeasibleTo M n (M.floor n) y =
        (λ n q w. subst (λ (n : ℕ). Makes (runs M l (K l m)) (m - l) (M.floor n - M.floor l) (tail l y) → FeasibleTo M n (M.floor n) y) q
        (λ u. via_feasible M rising unlimited l (m - l) (K l m) y (v.0, u)) w) in
        go m e v.1

    pub candidate_answers : (rows : ℕ → Option Solution) (l : ℕ) → l < m → Right M l (rows l)
        → Answers (Fits M (K l m) m l) (λ x. cost_to M x m) m (candidate M K rows m l)
    candidate_answers rows l h a = move m (omega arith)
      where
        runs_to : ℕ → Option Solution
        runs_to n = best_to (stages (runs M l (K l m))) (m - l) (M.floor n - M.floor l)

        -- the candidate answers at l + (m - l), and so at m, which it is
        Answered : ℕ → Type 0
        Answered n =
            Answers (λ y. FeasibleTo M l (M.floor l) y × Makes (runs M l (K l m)) (m - l) (M.floor n - M.floor l) (tail l y))
            (λ x. cost_to M x n) n (glue (rows l) (runs_to n))

        move : (n : ℕ) → l + (m - l) ≡ n → Answered n
        move n e =
            subst Answered e
            (glue_answers M rising unlimited l (m - l) (K l m) (rows l) (runs_to (l + (m - l))) a
            (totals_answers (runs M l (K l m)) (m - l) (M.floor (l + (m - l)) - M.floor l)))

    -- each interval of the optimal plan is of the kind
    abbrev pub Shaped : Type 0
    Shaped = (x : ℕ → ℕ) → OptimalTo M m (M.floor m) x → (l : ℕ) → Regeneration M x l m
        → (k : ℕ) → k < m - l → (K l m).Kind k (sum_to (tail l x) (suc k)) (x (l + k))

    run_fits : Shaped → (x : ℕ → ℕ) → OptimalTo M m (M.floor m) x → (l : ℕ) → Regeneration M x l m → Fits M (K l m) m l x
    run_fits shape x b l run =
        let h = run.ahead in
        let r = b.feasible in
        let empty = run.empty in
        let sums : (j : ℕ) → sum_to (tail l x) j ≡ sum_to x (l + j) - M.floor l = (λ j. omega (arith, sum_tail x l j)) in
        let e : l + (m - l) ≡ m = omega arith in (
          rw empty at (feasible_less M l m (M.floor m) x (omega arith) r),
          record {
            total = sums (m - l) ∙ ap (λ (v : ℕ). v - M.floor l) (ap (sum_to x) e ∙ r.total);
            within = λ k a. r.within (l + k) (omega arith);
            allowed = λ k a. (
              omega (arith, r.served (l + k) (omega arith), sum_tail x l k),
              shape x b l run k a,
            );
          },
        )

    -- Then what answers the plans that fit answers all plans of (m, N m): what a loop over l ends with.
    pub cover : 0 < m → Shaped → (o : Option Solution) → Answers (OneOf (λ l. Fits M (K l m) m l) m) (λ x. cost_to M x m) m o → Right M m o
    cover pos shape o a =
        covers m (OneOf (λ l. Fits M (K l m) m l) m) o a
        (λ y q. fits_feasible q.0 q.1 y q.2)
        (λ x b. let w = last_run M rising (M.floor m) x m pos b.feasible in (w.0, w.1.ahead, run_fits shape x b w.0 w.1))
