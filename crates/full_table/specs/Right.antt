-- The plan read back from a filled table is the plan of the problem.
-- Main statements: `filled_traced`, `filled_optimal`. Assumes nothing.
use Rattle.std.specs.Prelude.{◌≡◌, refl, List, [], ◌∷◌, ◌++◌, ℕ, zero, suc, ◌+◌, ◌-◌, ◌*◌, ◌≤◌, ◌<◌, length}
use Rattle.std.proofs.Common.{sym, ap, subst, ◌∙◌, suc-mul, mul-le-mul_right, arith, length-append}
use Rattle.std.proofs.Math.ListN.{get_or-append}
use Rattle.day.specs.Sums.{at}
use Rattle.theory.specs.Model.{Model, OptimalTo}
use Rattle.theory.specs.Recursion.{leads_optimal}
use Rattle.theory.specs.Cut.{optimal_ext}
use Rattle.theory.specs.Full.{stage_of, cost_row, amount, back, full_path, full_path_right}
use Rattle.theory.specs.Problem.{Problem, periods, total, model_within, model_rising}
use Rattle.full_rows.specs.Laws.{InReach, amount_between, before}
use Rattle.full_table.specs.Table.{Reachable, cell_at, Fillable, TableFilled, Traced, plan_read}

pub back_length : (ch : ℕ → ℕ → ℕ) (k X : ℕ) → length (back ch k X) ≡ k
back_length ch zero X = refl
back_length ch (suc k) X = length-append (back ch k (X - ch k X)) (ch k X ∷ []) ∙ omega (arith, back_length ch k (X - ch k X))

module _ {p : Problem} {U costs choices : List ℕ} {T : ℕ} (f : Fillable p U costs choices T) where
  abbrev M : Model
  M = model_within p U

  abbrev n : ℕ
  n = periods p

  pub under : (i X : ℕ) → i ≤ n → Reachable p U i X → X ≤ T
  under zero X l h = omega (arith, h.high)
  under (suc i) X l h = omega (arith, h.high, f.under i l)

  pub reached : (i X : ℕ) → i < n → Reachable p U (suc i) X → InReach (stage_of M i) X
  reached i X l h = record { some = f.covered i (omega arith); rises = omega (arith, h.low); near = omega (arith, h.high) }

  -- the whole demand can be reached
  whole : Reachable p U n T
  whole = record { low = omega (arith, f.is); high = omega (arith, f.is, f.covered n (omega arith)) }

  -- what the choices say does not hang on what lies after them
  pub filled_longer : {cells : List ℕ} → TableFilled p U T cells → n * (T + 1) ≤ length cells → (rest : List ℕ) → TableFilled p U T (cells ++ rest)
  filled_longer {cells} t l rest =
      record {
        amounts = λ k X h a.
            let m = suc-mul k (T + 1) in
            let b = mul-le-mul_right (T + 1) h in
            get_or-append cells rest 0 (k * (T + 1) + X) (omega (arith, under (suc k) X h a)) ∙ t.amounts k X h a;
      }

  module _ {cells : List ℕ} (t : TableFilled p U T cells) where
    -- the choices lead from one total that can be reached to another, by the amounts of the full path
    back_right : (k X : ℕ) → k ≤ n → Reachable p U k X → Traced (cell_at cells T) k X × (back (cell_at cells T) k X ≡ back (amount M) k X)
    back_right zero X l h = (tt, refl)
    back_right (suc k) X l h =
        let e = t.amounts k X l h in
        let a = reached k X l h in
        let b = amount_between (stage_of M k) X a (cost_row M k) in
        let w = before (stage_of M k) X a (amount M k X) b.0 b.1 in
        let rest = back_right k (X - amount M k X) (omega arith) (record { low = w.0; high = w.1 }) in
        rw e ((omega (arith, b.1), rest.0), ap (λ (q : List ℕ). q ++ (amount M k X ∷ [])) rest.1)

    pub filled_traced : Traced (cell_at cells T) n T
    filled_traced = (back_right n T (omega arith) whole).0

    -- the slots, where the plan stands before what they held
    pub filled_optimal : (rest : List ℕ) → OptimalTo M n (total p) (at (plan_read cells n T ++ rest))
    filled_optimal rest =
        subst (λ (X : ℕ). OptimalTo M n X (at (plan_read cells n T ++ rest))) f.is
        (optimal_ext M n T (at (back (amount M) n T)) (at (plan_read cells n T ++ rest)) same
        (leads_optimal M n T (full_path M n T) (full_path_right M (model_rising p) n f.covered T whole.low whole.high)))
      where
        same : (k : ℕ) → k < n → at (back (amount M) n T) k ≡ at (plan_read cells n T ++ rest) k
        same k l =
            ap (λ (q : List ℕ). at q k) (sym (back_right n T (omega arith) whole).1)
            ∙ sym (get_or-append (plan_read cells n T) rest 0 k (omega (arith, back_length (cell_at cells T) n T)))
