-- Stages whose state is the total made so far: what leads to a total, and what it costs, in sums over the first i periods.
-- Main statement: `totals_answers`. Assumes nothing.
use Rattle.std.specs.Prelude.{◌≡◌, refl, ℕ, zero, suc, ◌-◌, ◌≤◌, ◌<◌, min}
use Rattle.std.proofs.Common.{sym, arith}
use Rattle.std.proofs.Math.Decide.{ℕ_discrete}
use Rattle.day.specs.Sums.{sum_to, below}
use Rattle.theory.specs.Stages.{Stages, Answers, Reaches, spent, best_to, best_to_answers, answers_iff, answers_costs}

-- period k has room for `capacity k`, may end with the total X after the amount x, and costs `stage k X x`
pub record Totals : Type 1 where
  pub capacity : ℕ → ℕ
  pub Allowed : ℕ → ℕ → ℕ → Type 0
  pub allowed? : (k X x : ℕ) → Dec (Allowed k X x)
  pub stage : ℕ → ℕ → ℕ → ℕ

abbrev pub stages : Totals → Stages
stages T = record {
  State = ℕ;
  Begins = λ X. X ≡ 0;
  begins? = λ X. ℕ_discrete X 0;
  most = λ k X. min (T.capacity k) X;
  Allowed = T.Allowed;
  allowed? = T.allowed?;
  before = λ k X x. X - x;
  stage = T.stage;
}

-- the amounts x of the first i periods make X in all, and each is within its period's room and allowed
pub record Makes (T : Totals) (i X : ℕ) (x : ℕ → ℕ) : Type 0 where
  pub total : sum_to x i ≡ X
  pub within : (k : ℕ) → k < i → x k ≤ T.capacity k
  pub allowed : (k : ℕ) → k < i → T.Allowed k (sum_to x (suc k)) (x k)

abbrev pub costs : Totals → (ℕ → ℕ) → ℕ → ℕ
costs T x i = sum_to (λ k. T.stage k (sum_to x (suc k)) (x k)) i

module _ (T : Totals) where
  makes : (i X : ℕ) (x : ℕ → ℕ) → Reaches (stages T) i X x → Makes T i X x
  makes zero X x r = record { total = sym r; within = λ k l. absurd (omega arith); allowed = λ k l. absurd (omega arith) }
  makes (suc k) X x r =
      let m = makes k (X - x k) x r.2 in
      let e : sum_to x (suc k) ≡ X = omega (arith, m.total, r.0) in
      record {
        total = e;
        within = below (λ (j : ℕ). x j ≤ T.capacity j) k m.within (omega (arith, r.0));
        allowed = below (λ (j : ℕ). T.Allowed j (sum_to x (suc j)) (x j)) k m.allowed (rw e r.1);
      }

  less : (k X : ℕ) (x : ℕ → ℕ) → Makes T (suc k) X x → Makes T k (X - x k) x
  less k X x m =
      record { total = omega (arith, m.total); within = λ j l. m.within j (omega arith); allowed = λ j l. m.allowed j (omega arith) }

  reaches : (i X : ℕ) (x : ℕ → ℕ) → Makes T i X x → Reaches (stages T) i X x
  reaches zero X x m = sym m.total
  reaches (suc k) X x m =
      (omega (arith, m.total, m.within k (omega arith)), rw m.total at (m.allowed k (omega arith)), reaches k (X - x k) x (less k X x m))

  spent_is : (i X : ℕ) (x : ℕ → ℕ) → Makes T i X x → spent (stages T) i X x ≡ costs T x i
  spent_is zero X x m = refl
  spent_is (suc k) X x m = rw (spent_is k (X - x k) x (less k X x m), ← m.total)

  -- Recursion (5) gives the first, by cost and then by size, of all the amounts that make X in the first i periods.
  pub totals_answers : (i X : ℕ) → Answers (Makes T i X) (λ x. costs T x i) i (best_to (stages T) i X)
  totals_answers i X =
      answers_costs i (best_to (stages T) i X) (spent_is i X)
      (answers_iff (spent (stages T) i X) i (best_to (stages T) i X) (makes i X) (reaches i X) (best_to_answers (stages T) i X))
