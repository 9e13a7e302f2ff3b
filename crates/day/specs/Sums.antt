-- Entries of tables and sums over the first periods.
-- Index k is the report's period k + 1, and `sum_to f i` is the sum over the report's periods 1 to i.
-- Assumes nothing.
use Rattle.std.specs.Prelude.{◌≡◌, refl, List, [], ◌∷◌, ℕ, zero, suc, ◌+◌, ◌-◌, ◌*◌, ◌≤◌, ◌<◌, min, get_or, length, drop, sum}
use Rattle.std.proofs.Common.{sym, ap, ap₂, ◌∙◌, ⊎_elim, suc-le-suc, eq-or-lt_of_le, le_of_suc-le-suc, add-one, arith, drop-drop}
use Rattle.std.proofs.lemmas.List.Sums.{sum_by-cons}
use Rattle.std.proofs.Math.Arith.{le-zero}

-- entry k of a table, 0 past its end
abbrev pub at : List ℕ → ℕ → ℕ
at l k = get_or l k 0

-- tables that are alike from place j on are so from any later one
pub drop_later : (j k : ℕ) (a b : List ℕ) → j ≤ k → drop j a ≡ drop j b → drop k a ≡ drop k b
drop_later j k a b le e =
    let on : j + (k - j) ≡ k = omega arith in
    let later : (l : List ℕ) → drop (k - j) (drop j l) ≡ drop k l = λ l. drop-drop (k - j) j l ∙ ap (λ (i : ℕ). drop i l) on in
    sym (later a) ∙ (ap (drop (k - j)) e ∙ later b)

-- f 0 + f 1 + .. + f (i - 1)
abbrev pub sum_to : (ℕ → ℕ) → ℕ → ℕ
sum_to f zero = 0
sum_to f (suc i) = sum_to f i + f i

-- the same, but after each term no more than u: u k after f k
abbrev pub capped_to : (f u : ℕ → ℕ) → ℕ → ℕ
capped_to f u zero = 0
capped_to f u (suc i) = min (capped_to f u i + f i) (u i)

-- r is the value, and at most `top`: what a sum of such terms needs so that it fits
pub record Term (value top r : ℕ) : Type 0 where
  pub is : r ≡ value
  pub low : r ≤ top

-- a running sum of terms that are at most `top`: one term more
pub term_more : (f : ℕ → ℕ) (top i : ℕ) {sum : ℕ} → Term (sum_to f i) (top * i) sum → f i ≤ top → Term (sum_to f (i + 1)) (top * (i + 1)) (sum + f i)
term_more f top i t l = rw (add-one i) (record { is = omega (arith, t.is); low = omega (arith, t.low) })

-- what holds below i and at i holds below i + 1
pub below : (P : ℕ → Type 0) (i : ℕ) → ((k : ℕ) → k < i → P k) → P i → (k : ℕ) → k < suc i → P k
below P i all here k l = ⊎_elim (λ (e : k ≡ i). rw e here) (λ lt. all k lt) (eq-or-lt_of_le (le_of_suc-le-suc l))

-- sums of what is alike below n are equal
pub sum_ext : (f g : ℕ → ℕ) (n : ℕ) → ((k : ℕ) → k < n → f k ≡ g k) → sum_to f n ≡ sum_to g n
sum_ext f g zero h = refl
sum_ext f g (suc n) h = omega (arith, sum_ext f g n (λ k l. h k (omega arith)), h n (omega arith))

-- a sum over more periods is no smaller
pub sum_grows : (f : ℕ → ℕ) (i n : ℕ) → i ≤ n → sum_to f i ≤ sum_to f n
sum_grows f i zero h = rw (le-zero h) (omega arith)
sum_grows f i (suc n) h = ⊎_elim (λ (e : i ≡ suc n). rw e (omega arith)) (λ l. omega (arith, sum_grows f i n (le_of_suc-le-suc l))) (eq-or-lt_of_le h)

-- a sum with its first term in front
pub sum_first : (f : ℕ → ℕ) (n : ℕ) → sum_to f (suc n) ≡ f 0 + sum_to (λ k. f (suc k)) n
sum_first f zero = omega arith
sum_first f (suc n) = omega (arith, sum_first f n)

-- the sum over a whole table is that of its entries
pub sum_to-sum : (l : List ℕ) → sum_to (at l) (length l) ≡ sum l
sum_to-sum [] = refl
sum_to-sum (x ∷ l) = sum_first (at (x ∷ l)) (length l) ∙ (ap (λ (n : ℕ). x + n) (sum_to-sum l) ∙ sym (sum_by-cons (λ (n : ℕ). n) x l))

-- terms that are at most `top`
pub sum_low : (f : ℕ → ℕ) (top n : ℕ) → ((k : ℕ) → f k ≤ top) → sum_to f n ≤ top * n
sum_low f top zero h = omega arith
sum_low f top (suc n) h = omega (arith, sum_low f top n h, h n)

-- f 0, .. f (n - 1) as a table
abbrev pub list_of : (ℕ → ℕ) → ℕ → List ℕ
list_of f zero = []
list_of f (suc n) = f 0 ∷ list_of (λ k. f (suc k)) n

pub at-list_of : (f : ℕ → ℕ) (n k : ℕ) → k < n → at (list_of f n) k ≡ f k
at-list_of f zero k l = absurd (omega arith)
at-list_of f (suc n) zero l = refl
at-list_of f (suc n) (suc k) l = at-list_of (λ j. f (suc j)) n k (le_of_suc-le-suc l)

pub length-list_of : (f : ℕ → ℕ) (n : ℕ) → length (list_of f n) ≡ n
length-list_of f zero = refl
length-list_of f (suc n) = ap suc (length-list_of (λ k. f (suc k)) n)

-- a table is listed by its entries
pub list_of-at : (n : ℕ) (l : List ℕ) (f : ℕ → ℕ) → length l ≡ n → ((k : ℕ) → k < n → f k ≡ at l k) → list_of f n ≡ l
list_of-at zero [] f e h = refl
list_of-at zero (x ∷ l) f e h = absurd (omega arith)
list_of-at (suc n) [] f e h = absurd (omega arith)
list_of-at (suc n) (x ∷ l) f e h =
    ap₂ ◌∷◌ (h 0 (omega arith)) (list_of-at n l (λ k. f (suc k)) (omega arith) (λ k lt. h (suc k) (suc-le-suc lt)))
