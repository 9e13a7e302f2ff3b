-- Laws of the loop over the rows: no row but the first is there at the start, and each last lot adds one.
-- Assumes nothing.
use Rattle.std.proofs.Common.{◌≡◌, refl, sym, ap, ◌∙◌, List, [], ◌++◌, ℕ, suc, ◌+◌, ◌*◌, ◌≤◌, ◌<◌, le_of_suc-le-suc, arith, length, set}
use Rattle.std.proofs.Common.{drop, length-set, get_or-set_same, get_or-set_other, drop-set-lt}
use Rattle.day.specs.Sums.{at, below}
use Rattle.theory.specs.Basics.{up_to, up_to-zero}
use Rattle.theory.specs.Model.{Model}
use Rattle.theory.specs.Problem.{Problem, model_of, model_rising, periods}
use Rattle.theory.specs.Stages.{Solution}
use Rattle.theory.specs.Uncapped.{price}
use Rattle.theory.specs.WagnerWhitin.{wagner_whitin, wagner_whitin_zero, lot, chosen_cost, chosen_plan}
use Rattle.uncapped_rows.specs.declared.LastLot.{LastLot}
use Rattle.uncapped_rows.specs.Bounds.{LowCosts, max_making}
use Rattle.uncapped_rows.specs.Lots.{Begins, LastLots}
use Rattle.uncapped_rows.specs.Rows.{LeastCosts, LastLotOf}

-- the areas hold the rows up to m; their cells past n are as they were
pub record LotRowsTo (p : Problem) (m : ℕ) (costs₀ choices₀ costs choices : List ℕ) : Type 0 where
  pub cost : (l : ℕ) → l ≤ m → (wagner_whitin (model_of p) l).cost ≡ at costs l
  pub low : LowCosts (at costs) m
  pub least : LeastCosts p (at costs) m
  pub begins : Begins (at choices) m
  pub lots : LastLots p.demand (λ m. (wagner_whitin (model_of p) m).plan) (at choices) m
  pub costs_size : length costs ≡ length costs₀
  pub choices_size : length choices ≡ length choices₀
  pub costs_rest : drop (periods p + 1) costs ≡ drop (periods p + 1) costs₀
  pub choices_rest : drop (periods p + 1) choices ≡ drop (periods p + 1) choices₀

module _ (p : Problem) (costs₀ choices₀ : List ℕ) where
  abbrev M : Model
  M = model_of p

  zeroth : wagner_whitin M 0 ≡ record { cost = 0; plan = [] }
  zeroth = wagner_whitin_zero M

  pub rows_none : at costs₀ 0 ≡ 0 → LotRowsTo p 0 costs₀ choices₀ costs₀ choices₀
  rows_none none =
      record {
        cost = up_to-zero (λ (l : ℕ). (wagner_whitin M l).cost ≡ at costs₀ l) (ap (λ (f : Solution). f.cost) zeroth ∙ sym none);
        low = up_to-zero (λ (l : ℕ). at costs₀ l ≤ l * max_making) (omega arith);
        least = λ l h j lt. absurd (omega arith);
        begins = λ k h. absurd (omega arith);
        lots = record { none = ap (λ (f : Solution). f.plan) zeroth; more = λ k h. absurd (omega arith) };
        costs_size = refl;
        choices_size = refl;
        costs_rest = refl;
        choices_rest = refl;
      }

  pub rows_more : periods p < length costs₀ → periods p < length choices₀
      → (m k : ℕ) (costs choices : List ℕ) (r : LastLot) → k ≡ suc m → m < periods p
      → LotRowsTo p m costs₀ choices₀ costs choices → LastLotOf p (at costs) m r
      → LotRowsTo p k costs₀ choices₀ (set costs k r.cost) (set choices k r.from)
  rows_more room room' m k costs choices r e inside f c = rw e (
      record {
        cost = up_to (λ (l : ℕ). (wagner_whitin M l).cost ≡ at costs' l) m (λ l h. f.cost l h ∙ sym (old l h))
            (chosen_cost M (model_rising p) (at costs) m r.cost r.from c.chosen f.cost ∙ sym here);
        low = up_to (λ (l : ℕ). at costs' l ≤ l * max_making) m (λ l h. omega (arith, f.low l h, old l h))
            (omega (arith, here, c.low, f.low m (omega arith)));
        least = up_to (λ (l : ℕ). (j : ℕ) → j < l → at costs' l ≤ price M (at costs') l j) m
            (λ l h j lt. omega (arith, f.least l h j lt, old l h, old j (omega arith)))
            (λ j lt. omega (arith, here, c.least j (le_of_suc-le-suc lt), old j (le_of_suc-le-suc lt)));
        begins = below (λ (k : ℕ). at choices' (suc k) ≤ k) m (λ k h. omega (arith, f.begins k h, old' k h)) (omega (arith, here', c.inside));
        lots = record {
          none = f.lots.none;
          more = below More m (λ k h. rw (old' k h) (f.lots.more k h))
              (rw here' (chosen_plan M (model_rising p) (at costs) m r.cost r.from c.chosen f.cost));
        };
        costs_size = length-set costs (suc m) r.cost ∙ f.costs_size;
        choices_size = length-set choices (suc m) r.from ∙ f.choices_size;
        costs_rest = drop-set-lt (periods p + 1) costs (suc m) r.cost (omega arith) ∙ f.costs_rest;
        choices_rest = drop-set-lt (periods p + 1) choices (suc m) r.from (omega arith) ∙ f.choices_rest;
      })
    where
      costs' : List ℕ
      costs' = set costs (suc m) r.cost

      choices' : List ℕ
      choices' = set choices (suc m) r.from

      More : ℕ → Type 0
      More k = (wagner_whitin M (suc k)).plan ≡ (wagner_whitin M (at choices' (suc k))).plan ++ lot M k (at choices' (suc k))

      here : at costs' (suc m) ≡ r.cost
      here = get_or-set_same costs (suc m) r.cost 0 (omega (arith, f.costs_size))

      here' : at choices' (suc m) ≡ r.from
      here' = get_or-set_same choices (suc m) r.from 0 (omega (arith, f.choices_size))

      old : (l : ℕ) → l ≤ m → at costs' l ≡ at costs l
      old l h = get_or-set_other costs (suc m) l r.cost 0 (λ q. omega arith)

      old' : (k : ℕ) → k < m → at choices' (suc k) ≡ at choices (suc k)
      old' k h = get_or-set_other choices (suc m) (suc k) r.from 0 (λ q. omega arith)
