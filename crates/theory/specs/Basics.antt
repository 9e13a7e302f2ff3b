-- Choices by a decision, facts about every index up to one, and the last entry of a list.
-- Assumes nothing.
use Rattle.std.specs.Ordering.{is_lt, nat_cmp}
use Rattle.std.specs.Prelude.{◌≡◌, refl, cond, List, [], ◌∷◌, ◌++◌, ℕ, zero, suc, ◌-◌, ◌≤◌, ◌<◌, length}
use Rattle.std.proofs.Common.{⊎_elim, eq-or-lt_of_le, le_of_suc-le-suc, arith, length-append}
use Rattle.std.proofs.Math.Arith.{le-zero}
use Rattle.std.proofs.Math.Decide.{dec_lt, dec_le}
use Rattle.std.proofs.lemmas.Bool.Decides.{nat_tests}
use Rattle.std.proofs.lemmas.List.{get_or_at}
use Rattle.day.specs.Sums.{at}

-- the first if the test holds, else the second
abbrev pub pick : {A B : Type 0} → Dec A → B → B → B
pick (yes _) a b = a
pick (no _) a b = b

pub pick_yes : {A B : Type 0} (d : Dec A) (a b : B) → A → pick d a b ≡ a
pick_yes (yes _) a b h = refl
pick_yes (no n) a b h = absurd (n h)

pub pick_no : {A B : Type 0} (d : Dec A) (a b : B) → ¬ A → pick d a b ≡ b
pick_no (yes y) a b h = absurd (h y)
pick_no (no _) a b h = refl

-- std's choice of two by their numbers, the first of equals, in these words; and by the other test
module _ {A : Type 0} (m k : ℕ) (a b : A) where
  pub picked : cond (is_lt (nat_cmp m k)) b a ≡ pick (dec_lt m k) b a
  picked = go (dec_lt m k)
    where
      go : (d : Dec (m < k)) → cond (is_lt (nat_cmp m k)) b a ≡ pick d b a
      go (yes h) = grind (arith, nat_tests)
      go (no n) = grind (arith, nat_tests)

  pub picked_le : cond (is_lt (nat_cmp m k)) b a ≡ pick (dec_le k m) a b
  picked_le = go (dec_le k m)
    where
      go : (d : Dec (k ≤ m)) → cond (is_lt (nat_cmp m k)) b a ≡ pick d a b
      go (yes h) = grind (arith, nat_tests)
      go (no n) = grind (arith, nat_tests)

-- what holds up to i and at i + 1 holds up to i + 1
pub up_to-zero : (P : ℕ → Type 0) → P 0 → (k : ℕ) → k ≤ 0 → P k
up_to-zero P here k l = rw (le-zero l) here

pub up_to : (P : ℕ → Type 0) (i : ℕ) → ((k : ℕ) → k ≤ i → P k) → P (suc i) → (k : ℕ) → k ≤ suc i → P k
up_to P i all here k l = ⊎_elim (λ (e : k ≡ suc i). rw e here) (λ lt. all k (le_of_suc-le-suc lt)) (eq-or-lt_of_le l)

-- what holds at 0 and, for each k below i, at k + 1, holds up to i
pub from_zero : (P : ℕ → Type 0) (i : ℕ) → P 0 → ((k : ℕ) → k < i → P (suc k)) → (j : ℕ) → j ≤ i → P j
from_zero P i z s zero l = z
from_zero P i z s (suc k) l = s k l

-- the last entry of a list
abbrev pub last : List ℕ → ℕ
last l = at l (length l - 1)

pub last_snoc : (l : List ℕ) (x : ℕ) → last (l ++ (x ∷ [])) ≡ x
last_snoc l x = get_or_at l x [] 0 (length (l ++ (x ∷ [])) - 1) (omega (arith, length-append l (x ∷ [])))
