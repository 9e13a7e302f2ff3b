-- The first index that passes a test, and what a loop that looks for it knows.
-- Assumes nothing.
use Rattle.std.specs.Prelude.{◌≡◌, refl, Bool, true, false, ℕ, zero, suc, ◌<◌, Option, None, Some}
use Rattle.std.proofs.Common.{⊎_elim, eq-or-lt_of_le, le_of_suc-le-suc, arith}
use Rattle.day.specs.Sums.{below}

-- the first where it is there, else the second where the test passes
abbrev pub or_here : Option ℕ → Bool → ℕ → Option ℕ
or_here (Some k) b i = Some k
or_here None true i = Some i
or_here None false i = None

-- the first index below n that passes the test
abbrev pub find : (ℕ → Bool) → ℕ → Option ℕ
find P zero = None
find P (suc n) = or_here (find P n) (P n) n

-- a search that has found nothing below i goes on past i
pub find_none : (P : ℕ → Bool) (i : ℕ) → find P i ≡ None → P i ≡ false → find P (suc i) ≡ None
find_none P i e f = rw (e, f) refl

-- and one that passes at i has found it, for every n above i
pub find_here : (P : ℕ → Bool) (i n : ℕ) → find P i ≡ None → P i ≡ true → i < n → find P n ≡ Some i
find_here P i zero e f l = absurd (omega arith)
find_here P i (suc n) e f l =
    ⊎_elim
    (λ (q : i ≡ n). rw (← q, e, f) refl)
    (λ h. rw (find_here P i n e f h) refl)
    (eq-or-lt_of_le (le_of_suc-le-suc l))

-- what was found passes, and nothing before it does
pub record Found (P : ℕ → Bool) (n k : ℕ) : Type 0 where
  pub inside : k < n
  pub passes : P k ≡ true
  pub first : (j : ℕ) → j < k → P j ≡ false

-- where nothing was found, nothing passes
pub none_found : (P : ℕ → Bool) (n : ℕ) → find P n ≡ None → (k : ℕ) → k < n → P k ≡ false
none_found P zero e k l = absurd (omega arith)
none_found P (suc n) e k l = go (find P n) (none_found P n) (P n) refl e
  where
    go : (o : Option ℕ) → (o ≡ None → (j : ℕ) → j < n → P j ≡ false) → (b : Bool) → P n ≡ b → or_here o b n ≡ None → P k ≡ false
    go (Some j) rec b r s = let z : ◌≡◌ {A = ℕ} 0 1 = cc in absurd (omega arith)
    go None rec true r s = let z : ◌≡◌ {A = ℕ} 0 1 = cc in absurd (omega arith)
    go None rec false r s = below (λ (j : ℕ). P j ≡ false) n (rec refl) r k l

-- where nothing passes, nothing is found
pub nothing_found : (P : ℕ → Bool) (n : ℕ) → ((k : ℕ) → k < n → P k ≡ false) → find P n ≡ None
nothing_found P zero h = refl
nothing_found P (suc n) h = find_none P n (nothing_found P n (λ k l. h k (omega arith))) (h n (omega arith))

-- what is found is the first that passes
pub some_found : (P : ℕ → Bool) (n k : ℕ) → find P n ≡ Some k → Found P n k
some_found P zero k e = let z : ◌≡◌ {A = ℕ} 0 1 = cc in absurd (omega arith)
some_found P (suc n) k e = go (find P n) refl (some_found P n) (P n) refl e
  where
    go : (o : Option ℕ) → find P n ≡ o → ((j : ℕ) → o ≡ Some j → Found P n j) → (b : Bool) → P n ≡ b → or_here o b n ≡ Some k → Found P (suc n) k
    go (Some j) q rec b r s =
        let f = rec k s in
        record { inside = omega (arith, f.inside); passes = f.passes; first = f.first }
    go None q rec true r s =
        let e : n ≡ k = cc in
        record { inside = omega arith; passes = rw (← e) r; first = λ j l. none_found P n q j (omega arith) }
    go None q rec false r s = let z : ◌≡◌ {A = ℕ} 0 1 = cc in absurd (omega arith)
