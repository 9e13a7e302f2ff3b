-- What the loop that reads the plan back keeps.
-- Assumes nothing.
use Rattle.std.proofs.Common.{◌≡◌, ap, ◌∙◌, List, ◌∷◌, ◌++◌, append_assoc, ℕ, suc, ◌-◌, ◌≤◌, ◌<◌, arith, length}
use Rattle.std.proofs.Common.{drop, set, length-set, drop-cons, drop-set-lt, get_or-set_same}
use Rattle.theory.specs.Full.{back}
use Rattle.full_table.specs.Table.{cell_at, Traced, plan_read}

drop_set : (l : List ℕ) (j v : ℕ) → j < length l → drop j (set l j v) ≡ v ∷ drop (suc j) l
drop_set l j v h =
    drop-cons (set l j v) j 0 (omega (arith, length-set l j v))
    ∙ (ap (λ (x : ℕ). x ∷ drop (suc j) (set l j v)) (get_or-set_same l j v 0 h)
    ∙ ap (λ (t : List ℕ). v ∷ t) (drop-set-lt (suc j) l j v (omega arith)))

-- i periods are still to be read, and `left` is their total
pub record BackRead (choices : List ℕ) (n T : ℕ) (slots : List ℕ) (left i : ℕ) : Type 0 where
  pub inside : i ≤ n
  pub under : left ≤ T
  pub traced : Traced (cell_at choices T) i left
  pub plan : back (cell_at choices T) i left ++ drop i slots ≡ plan_read choices n T
  pub size : length slots ≡ n

module _ {choices : List ℕ} {n T : ℕ} where
  pub reading_more : {slots : List ℕ} {left i : ℕ} → BackRead choices n T slots left i → 0 < i
      → let a = cell_at choices T (i - 1) left in BackRead choices n T (set slots (i - 1) a) (left - a) (i - 1)
  reading_more {slots} {left} {i} c l = go (i - 1) (omega arith)
    where
      go : (j : ℕ) → i ≡ suc j → BackRead choices n T (set slots j (cell_at choices T j left)) (left - cell_at choices T j left) j
      go j e =
          let t = rw e at c.traced in
          let p = rw e at c.plan in
          record {
            inside = omega (arith, c.inside);
            under = omega (arith, c.under);
            traced = t.1;
            plan = rw (drop_set slots j (cell_at choices T j left) (omega (arith, c.inside, c.size))) (rw append_assoc at p);
            size = length-set slots j (cell_at choices T j left) ∙ c.size;
          }
