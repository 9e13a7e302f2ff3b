-- A row for each m, found from the rows before it.
-- Main statements: `memo_next`, `memo_all`. Assumes nothing.
use Rattle.std.specs.Prelude.{◌≡◌}
use Rattle.std.proofs.Math.Path.{refl}
use Rattle.std.proofs.Common.{◌∙◌, eq-or-lt_of_le, le_of_suc-le-suc}
use Rattle.std.proofs.Math.Logic.{⊎_elim}
use Prim.Native.Nat.{ℕ, zero, suc, ◌≤◌, ◌<◌}
use Rattle.std.proofs.Math.Decide.{dec_lt}
use native.Mathlib.Omega.{arith}
use Rattle.theory.specs.Basics.{pick, pick_yes, pick_no}

-- `next rows m` is row m + 1; of `rows` it is to use the rows 0 .. m alone
module _ {A : Type 0} (base : A) (next : (ℕ → A) → ℕ → A) where
  -- the rows 0 .. m
  abbrev tab : ℕ → ℕ → A
  tab zero k = base
  tab (suc m) k = pick (dec_lt k (suc m)) (tab m k) (next (tab m) m)

  unfoldable pub memo : ℕ → A
  memo m = tab m m

  tab_is : (m k : ℕ) → k ≤ m → tab m k ≡ memo k
  unfolding memo
  tab_is zero k h = let e : k ≡ 0 = omega arith in rw e refl
  tab_is (suc m) k h =
      ⊎_elim (λ (e : k ≡ suc m). rw e refl)
      (λ l. pick_yes (dec_lt k (suc m)) (tab m k) (next (tab m) m) l ∙ tab_is m k (le_of_suc-le-suc l))
      (eq-or-lt_of_le h)

  pub memo_zero : memo 0 ≡ base
  unfolding memo
  memo_zero = refl

  pub memo_next : ((r s : ℕ → A) (m : ℕ) → ((l : ℕ) → l ≤ m → r l ≡ s l) → next r m ≡ next s m)
      → (m : ℕ) → memo (suc m) ≡ next memo m
  unfolding memo
  memo_next ext m =
      pick_no (dec_lt (suc m) (suc m)) (tab m (suc m)) (next (tab m) m) (λ h. omega arith) ∙ ext (tab m) memo m (tab_is m)

  -- what each step keeps holds of every row
  pub memo_all : (P : ℕ → A → Type 0) (n : ℕ) → P 0 base
      → ((m : ℕ) → m < n → (rows : ℕ → A) → ((l : ℕ) → l ≤ m → P l (rows l)) → P (suc m) (next rows m))
      → (m : ℕ) → m ≤ n → P m (memo m)
  unfolding memo
  memo_all P n z s m h = rows m h m (omega arith)
    where
      rows : (i : ℕ) → i ≤ n → (k : ℕ) → k ≤ i → P k (tab i k)
      rows zero l k g = let e : k ≡ 0 = omega arith in rw e z
      rows (suc i) l k g =
          let before = rows i (omega arith) in
          ⊎_elim
          (λ (e : k ≡ suc i). rw (e, pick_no (dec_lt (suc i) (suc i)) (tab i (suc i)) (next (tab i) i) (λ q. omega arith)) (s i l (tab i) before))
          (λ q. rw (pick_yes (dec_lt k (suc i)) (tab i k) (next (tab i) i) q) (before k (le_of_suc-le-suc q)))
          (eq-or-lt_of_le g)
