-- A row found from the rows before it: what the loop over its candidates keeps, and that it ends with the plan.
-- Main statements: `best_none`, `old_stays`, `new_goes`, `row_found`. Assumes nothing.
use Rattle.std.specs.Prelude.{◌≡◌, refl, List, [], ◌∷◌, ℕ, zero, suc, ◌+◌, ◌*◌, ◌≤◌, ◌<◌, take, drop, Option, None, Some}
use Rattle.std.proofs.Common.{sym, ap, ◌∙◌, ⊎_elim, eq-or-lt_of_le, le_of_suc-le-suc, arith, take-take, get_or-take}
use Rattle.day.specs.Sums.{at}
use Rattle.day.specs.Plan.{Precedes}
use Rattle.theory.specs.Model.{cost_to}
use Rattle.theory.specs.Problem.{Problem, periods, demand_to, model_of, model_rising, model_unlimited}
use Rattle.theory.specs.Stages.{Solution, Leads, Answers}
use Rattle.theory.specs.Recursion.{PlanOf}
use Rattle.theory.specs.Candidates.{OneOf, keep_old, take_new}
use Rattle.theory.specs.Regeneration.{Fits, Right}
use Rattle.theory.specs.FlorianKlein.{Equal, by_loads, florian_klein_cover}
use Rattle.theory.specs.Reachable.{Covered, interval}
use Rattle.equal_runs.specs.Bounds.{marker, stage_most}
use Rattle.equal_rows.specs.Order.{Sooner}
use Rattle.equal_rows.specs.Rows.{Areas, PlanTold, FrontKept, row_of, solution_of}

-- two that are as they are told, by what they cost and make
module _ (Q Q' : (ℕ → ℕ) → Type 0) (costs : (ℕ → ℕ) → ℕ) (n B v w : ℕ) (x y : List ℕ) (a b : Solution) where
  sooner_precedes : Leads Q costs n a → Leads Q' costs n b → PlanTold B v x (Some a) → PlanTold B w y (Some b)
      → Sooner n v (at x) w (at y) → Precedes costs n (at a.plan) (at b.plan)
  sooner_precedes la lb ha hb s =
      let p = la.tells in
      let q = lb.tells in
      let t : v ≡ a.cost = ha.cost.0 in
      let u : w ≡ b.cost = hb.cost.0 in
      let small : v ≡ w → _ = s.small in
      record {
        cheap = omega (arith, s.cheap);
        small = λ e. rw (← ha.amounts, ← hb.amounts) (small (omega arith));
      }

-- of the candidates before i, and candidate i
module _ (P : ℕ → (ℕ → ℕ) → Type 0) (costs : (ℕ → ℕ) → ℕ) (n i B v w : ℕ) (x y : List ℕ) (low : B < marker) where
  neither : Answers (OneOf P i) costs n None → Answers (P i) costs n None → Answers (OneOf P (suc i)) costs n None
  neither la lb z q = ⊎_elim (λ (e : q.0 ≡ i). lb z (rw e at q.2)) (λ h. la z (q.0, h, q.2)) (eq-or-lt_of_le (le_of_suc-le-suc q.1))

  -- the one kept so far goes first
  pub old_stays : (o o' : Option Solution) → Answers (OneOf P i) costs n o → Answers (P i) costs n o' → PlanTold B v x o → PlanTold B w y o'
      → Sooner n v (at x) w (at y) → Answers (OneOf P (suc i)) costs n o
  old_stays None None la lb ha hb s = neither la lb
  old_stays None (Some b) la lb ha hb s = absurd (omega (arith, s.cheap, ha.cost.0, hb.cost.1))
  old_stays (Some a) o' la lb ha hb s =
      keep_old costs n P i a o' la lb (λ b e. sooner_precedes (OneOf P i) (P i) costs n B v w x y a b la (rw e at lb) ha (rw e at hb) s)

  -- the new one goes first
  pub new_goes : (o o' : Option Solution) → Answers (OneOf P i) costs n o → Answers (P i) costs n o' → PlanTold B v x o → PlanTold B w y o'
      → Sooner n w (at y) v (at x) → Answers (OneOf P (suc i)) costs n o'
  new_goes None None la lb ha hb s = neither la lb
  new_goes (Some a) None la lb ha hb s = absurd (omega (arith, s.cheap, ha.cost.1, hb.cost.0))
  new_goes o (Some b) la lb ha hb s =
      take_new costs n P i o b la lb (λ a e. sooner_precedes (P i) (OneOf P i) costs n B w v y x b a lb (rw e at la) hb (rw e at ha) s)

-- the first of the candidates before i for row m, and what the row tells of it
pub record BestSoFar (p : Problem) (c m i : ℕ) (a : Areas) : Type 0 where
  pub first : Option Solution
  pub answers : let M = model_of p in Answers (OneOf (λ l. Fits M (by_loads M c l m) m l) i) (λ x. cost_to M x m) m first
  pub told : PlanTold (m * stage_most) (at a.costs m) (row_of (periods p) a m) first

-- row m is the plan of (m, N m)
pub record PlanRow (p : Problem) (m : ℕ) (a : Areas) : Type 0 where
  pub plan : PlanOf (model_of p) m (demand_to p m) (solution_of (periods p) a m)
  pub low : at a.costs m ≤ m * stage_most

-- What is in front stays as it is.
take_less : (a b : ℕ) (l l' : List ℕ) → a ≤ b → take b l' ≡ take b l → take a l' ≡ take a l
take_less a b l l' h e = sym (take-take a b l' h) ∙ ap (take a) e ∙ take-take a b l h

pub kept_less : (i j i' j' : ℕ) {old new : Areas} → i' ≤ i → j' ≤ j → FrontKept i j old new → FrontKept i' j' old new
kept_less i j i' j' h g k = record { costs = take_less i' i _ _ h k.costs; choices = take_less j' j _ _ g k.choices }

pub kept_trans : {i j : ℕ} {a b c : Areas} → FrontKept i j a b → FrontKept i j b c → FrontKept i j a c
kept_trans k k' = record { costs = k'.costs ∙ k.costs; choices = k'.choices ∙ k.choices }

cell_kept : (b i : ℕ) (l l' : List ℕ) → i < b → take b l' ≡ take b l → at l' i ≡ at l i
cell_kept b i l l' h e = sym (get_or-take b l' i 0 h) ∙ ap (λ (t : List ℕ). at t i) e ∙ get_or-take b l i 0 h

window_take : (b from k : ℕ) (l : List ℕ) → from + k ≤ b → take k (drop from (take b l)) ≡ take k (drop from l)
window_take b zero k l h = take-take k b l (omega arith)
window_take zero (suc from) k l h = absurd (omega arith)
window_take (suc b) (suc from) k [] h = refl
window_take (suc b) (suc from) k (x ∷ l) h = window_take b from k l (omega arith)

window_kept : (b from k : ℕ) (l l' : List ℕ) → from + k ≤ b → take b l' ≡ take b l → take k (drop from l') ≡ take k (drop from l)
window_kept b from k l l' h e =
    sym (window_take b from k l' h) ∙ ap (λ (t : List ℕ). take k (drop from t)) e ∙ window_take b from k l h

module _ (p : Problem) (m i j : ℕ) (old new : Areas) (kept : FrontKept i j old new) (cell : m < i) (window : m * periods p + m ≤ j) where
  same_cell : at new.costs m ≡ at old.costs m
  same_cell = cell_kept i m old.costs new.costs cell kept.costs

  same_row : row_of (periods p) new m ≡ row_of (periods p) old m
  same_row = window_kept j (m * periods p) m old.choices new.choices window kept.choices

  pub row_kept : PlanRow p m old → PlanRow p m new
  row_kept r = record { plan = rw (same_cell, same_row) r.plan; low = rw same_cell r.low }

  pub best_kept : (c i : ℕ) → BestSoFar p c m i old → BestSoFar p c m i new
  best_kept c i best = record { first = best.first; answers = best.answers; told = rw (same_cell, same_row) best.told }

-- No candidate is tried yet.
pub best_none : (p : Problem) (c m : ℕ) (a : Areas) → at a.costs m ≡ marker → BestSoFar p c m 0 a
best_none p c m a e =
    record { first = None; answers = λ y q. omega (arith, q.1); told = record { cost = (omega arith, omega arith); amounts = tt } }

-- All candidates are tried: the first of them is the plan.
pub row_found : (p : Problem) (c m : ℕ) (a : Areas) → 0 < m → Equal (model_of p) c m → Covered (model_of p) m → BestSoFar p c m m a → PlanRow p m a
row_found p c zero a pos caps covered best = absurd (omega arith)
row_found p c (suc m) a pos caps covered best =
    go best.first (florian_klein_cover (model_of p) (model_rising p) (model_unlimited p) c m caps best.first best.answers) best.told
  where
    go : (o : Option Solution) → Right (model_of p) (suc m) o
        → PlanTold (suc m * stage_most) (at a.costs (suc m)) (row_of (periods p) a (suc m)) o
        → PlanRow p (suc m) a
    go None r h =
        let w = interval (model_of p) (model_rising p) (suc m) covered (demand_to p (suc m)) (omega arith) (covered (suc m) (omega arith)) in
        absurd (r w.0 w.1)
    go (Some f) r h = record { plan = rw (h.cost.0, h.amounts) r; low = h.cost.1 }
