-- The order of plans: its laws, the readable form of it, and a test that looks from the last period down.
-- Main statements: `smaller_means`, `precedes_anti`. Assumes nothing.
use Rattle.std.specs.Prelude.{◌≡◌, ◌⊎◌, ℕ, zero, suc, ◌≤◌, ◌<◌}
use Rattle.std.proofs.Common.{sym, ◌∙◌, inl, inr, ⊎_elim, eq-or-lt_of_le, le_antisymm, le_of_suc-le-suc, arith}
use Rattle.std.proofs.Math.Decide.{dec_lt}
use Rattle.day.specs.Sums.{below}
use Rattle.day.specs.Plan.{Smaller, Precedes}

-- smaller by the last period
pub smaller_last : (n : ℕ) (x y : ℕ → ℕ) → x n < y n → Smaller (suc n) x y
smaller_last n x y h k lt alike =
    ⊎_elim (λ (e : k ≡ n). rw e (omega arith)) (λ (l : k < n). omega (arith, alike n l (omega arith))) (eq-or-lt_of_le (le_of_suc-le-suc lt))

-- alike in the last period, and smaller before
pub smaller_before : (n : ℕ) (x y : ℕ → ℕ) → x n ≡ y n → Smaller n x y → Smaller (suc n) x y
smaller_before n x y h s k lt alike =
    ⊎_elim (λ (e : k ≡ n). rw e (omega arith)) (λ (l : k < n). s k l (λ j a b. alike j a (omega arith))) (eq-or-lt_of_le (le_of_suc-le-suc lt))

-- and what follows from being smaller
pub smaller_at_last : (n : ℕ) (x y : ℕ → ℕ) → Smaller (suc n) x y → x n ≤ y n
smaller_at_last n x y s = s n (omega arith) (λ j a b. absurd (omega arith))

pub smaller_down : (n : ℕ) (x y : ℕ → ℕ) → x n ≡ y n → Smaller (suc n) x y → Smaller n x y
smaller_down n x y h s k lt alike =
    s k (omega arith) (λ j a b. ⊎_elim (λ (e : j ≡ n). rw e h) (λ (l : j < n). alike j a l) (eq-or-lt_of_le (le_of_suc-le-suc b)))

pub smaller_anti : (n : ℕ) (x y : ℕ → ℕ) → Smaller n x y → Smaller n y x → (k : ℕ) → k < n → x k ≡ y k
smaller_anti zero x y s t k lt = absurd (omega arith)
smaller_anti (suc n) x y s t k lt =
    let e : x n ≡ y n = le_antisymm (smaller_at_last n x y s) (smaller_at_last n y x t) in
    ⊎_elim
    (λ (q : k ≡ n). rw q e)
    (λ (l : k < n). smaller_anti n x y (smaller_down n x y e s) (smaller_down n y x (sym e) t) k l)
    (eq-or-lt_of_le (le_of_suc-le-suc lt))

-- the order in other words: the two are alike, or there is a last period in which they differ, and x has the smaller amount there
abbrev pub LastSmaller : ℕ → (ℕ → ℕ) → (ℕ → ℕ) → Type 0
LastSmaller n x y = (k : ℕ) × (k < n) × (x k < y k) × ((j : ℕ) → k < j → j < n → x j ≡ y j)

pub smaller_means : (n : ℕ) (x y : ℕ → ℕ) → Smaller n x y → ((k : ℕ) → k < n → x k ≡ y k) ⊎ LastSmaller n x y
smaller_means zero x y s = inl (λ k l. absurd (omega arith))
smaller_means (suc n) x y s =
    ⊎_elim
    (λ (e : x n ≡ y n).
    ⊎_elim
    (λ alike. inl (below (λ (k : ℕ). x k ≡ y k) n alike e))
    (λ (l : LastSmaller n x y).
    inr (l.0, omega (arith, l.1), l.2, λ j a b. below (λ (i : ℕ). l.0 < i → x i ≡ y i) n (λ i c d. l.3 i d c) (λ _. e) j b a))
    (smaller_means n x y (smaller_down n x y e s)))
    (λ (l : x n < y n). inr (n, omega arith, l, λ j a b. absurd (omega arith)))
    (eq-or-lt_of_le (smaller_at_last n x y s))

pub means_smaller : (n : ℕ) (x y : ℕ → ℕ) → ((k : ℕ) → k < n → x k ≡ y k) ⊎ LastSmaller n x y → Smaller n x y
means_smaller n x y (inl alike) k l _ = omega (arith, alike k l)
means_smaller n x y (inr w) k l after = go (dec_lt k w.0) (dec_lt w.0 k)
  where
    go : Dec (k < w.0) → Dec (w.0 < k) → x k ≤ y k
    go (yes a) d = absurd (omega (arith, after w.0 a w.1, w.2))
    go (no a) (yes b) = omega (arith, w.3 k b l)
    go (no a) (no b) = let e : k ≡ w.0 = omega arith in rw e (omega (arith, w.2))

pub smaller_trans : (n : ℕ) (x y z : ℕ → ℕ) → Smaller n x y → Smaller n y z → Smaller n x z
smaller_trans zero x y z s t = λ k lt _. absurd (omega arith)
smaller_trans (suc n) x y z s t =
    let a = smaller_at_last n x y s in
    let b = smaller_at_last n y z t in
    ⊎_elim
    (λ (e : x n ≡ z n).
    smaller_before n x z e
    (smaller_trans n x y z (smaller_down n x y (omega arith) s) (smaller_down n y z (omega arith) t)))
    (λ (l : x n < z n). smaller_last n x z l)
    (eq-or-lt_of_le (omega arith))

-- what is smaller in the periods from l on, and before them, is smaller
pub smaller_split : (l n : ℕ) (x y : ℕ → ℕ)
    → ((k : ℕ) → l ≤ k → k < n → ((j : ℕ) → k < j → j < n → x j ≡ y j) → x k ≤ y k)
    → l ≤ n
    → Smaller l x y
    → Smaller n x y
smaller_split l n x y high le low k lt alike = go (dec_lt k l)
  where
    go : Dec (k < l) → x k ≤ y k
    go (yes h) = low k h (λ j a b. alike j a (omega arith))
    go (no h) = high k (omega arith) lt alike

-- amounts that are alike are as small
pub smaller_ext : (n : ℕ) (x y x' y' : ℕ → ℕ)
    → ((k : ℕ) → k < n → x k ≡ x' k)
    → ((k : ℕ) → k < n → y k ≡ y' k)
    → Smaller n x y
    → Smaller n x' y'
smaller_ext n x y x' y' e f s k lt alike =
    rw (← (e k lt), ← (f k lt)) (s k lt (λ j a b. e j b ∙ alike j a b ∙ sym (f j b)))

pub precedes_trans : (costs : (ℕ → ℕ) → ℕ) (n : ℕ) (x y z : ℕ → ℕ) → Precedes costs n x y → Precedes costs n y z → Precedes costs n x z
precedes_trans costs n x y z p q =
    record {
      cheap = omega (arith, p.cheap, q.cheap);
      small = λ e. smaller_trans n x y z (p.small (omega (arith, p.cheap, q.cheap))) (q.small (omega (arith, p.cheap, q.cheap)));
    }

-- those that precede each other are alike
pub precedes_anti : (costs : (ℕ → ℕ) → ℕ) (n : ℕ) (x y : ℕ → ℕ) → Precedes costs n x y → Precedes costs n y x
    → (k : ℕ) → k < n → x k ≡ y k
precedes_anti costs n x y p q =
    let e : costs x ≡ costs y = le_antisymm p.cheap q.cheap in
    smaller_anti n x y (p.small e) (q.small (sym e))
