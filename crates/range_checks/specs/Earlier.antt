-- Two searches over the same periods as one: the answer with the earlier period. Main definition: `earlier`; main statement: `earlier_either`.
-- Assumes nothing.
use Rattle.std.specs.Prelude.{◌≡◌, refl, Bool, true, false, cond, ◌||◌, ℕ, suc, ◌<◌, ltb, Option, None, Some, Result, Ok, Err}
use Rattle.std.proofs.Math.Bool.{or-true}
use Rattle.std.proofs.Math.Decide.{dec_lt}
use Rattle.std.proofs.Common.{arith, lt-ltb, le-ltb}
use Rattle.day.specs.declared.Refusal.{Refusal}
use Rattle.day.specs.declared.Refusal.TheVariants.{AboveLimit}
use Rattle.day.specs.Find.{find, find_here, Found, none_found, nothing_found, some_found}
use Rattle.day.specs.Refusals.{period_of, refuse_at, checked}

-- the first refusal, except where the second is of an earlier period; a passed test refuses nothing
abbrev pub earlier : Result Unit Refusal → Result Unit Refusal → Result Unit Refusal
earlier (Ok _) second = second
earlier (Err a) (Ok _) = Err a
earlier (Err a) (Err b) = Err (cond (ltb (period_of b) (period_of a)) b a)

-- what is the first to pass is found
found_is : (P : ℕ → Bool) (n k : ℕ) → k < n → P k ≡ true → ((j : ℕ) → j < k → P j ≡ false) → find P n ≡ Some k
found_is P n k inside passes first = find_here P k n (nothing_found P k first) passes inside

module _ (P Q : ℕ → Bool) (n : ℕ) where
  abbrev either : ℕ → Bool
  either k = P k || Q k

  -- what 3 answers where a search found this
  abbrev answer : Option ℕ → Result Unit Refusal
  answer o = checked (refuse_at AboveLimit o)

  joined : (o q : Option ℕ) → find P n ≡ o → find Q n ≡ q → earlier (answer o) (answer q) ≡ answer (find either n)
  joined None None e f =
      rw (nothing_found either n (λ k l. rw (none_found P n e k l, none_found Q n f k l) refl)) refl
  joined None (Some j) e f =
      let t = some_found Q n j f in
      let is : find either n ≡ Some j =
      found_is either n j t.inside (rw t.passes (or-true (P j)))
      (λ i l. rw (none_found P n e i (omega (arith, t.inside)), t.first i l) refl) in
      rw is refl
  joined (Some k) None e f =
      let s = some_found P n k e in
      let is : find either n ≡ Some k =
      found_is either n k s.inside (rw s.passes refl)
      (λ i l. rw (s.first i l, none_found Q n f i (omega (arith, s.inside))) refl) in
      rw is refl
  joined (Some k) (Some j) e f = go (dec_lt j k)
    where
      s : Found P n k
      s = some_found P n k e

      t : Found Q n j
      t = some_found Q n j f

      go : Dec (j < k) → earlier (answer (Some k)) (answer (Some j)) ≡ answer (find either n)
      go (yes h) =
          let is : find either n ≡ Some j =
          found_is either n j t.inside (rw t.passes (or-true (P j))) (λ i l. rw (s.first i (omega arith), t.first i l) refl) in
          rw (is, lt-ltb (suc j) (suc k) (omega arith)) refl
      go (no h) =
          let is : find either n ≡ Some k =
          found_is either n k s.inside (rw s.passes refl) (λ i l. rw (s.first i l, t.first i (omega arith)) refl) in
          rw (is, le-ltb (suc j) (suc k) (omega arith)) refl

  -- two searches joined are one search for either
  pub earlier_either : earlier (answer (find P n)) (answer (find Q n)) ≡ answer (find either n)
  earlier_either = joined (find P n) (find Q n) refl refl
