-- A search for the first period in which a test holds: as a loop, what it knows, a turn, what it answers there and at its end; by the library.
-- Assumes nothing.
use Rattle.std.specs.Prelude.{◌≡◌, refl, Bool, true, false, List, ℕ, suc, ◌+◌, ◌≤◌, ◌<◌, length, get_or, Option, None, Some, Result, Ok, Err}
use Rattle.std.specs.List.{list_any, position}
use Rattle.std.proofs.Common.{ap, subst, ◌∙◌, add-one, arith, le-ltb, lt-ltb}
use Rattle.std.proofs.lemmas.List.{get_or_default}
use Rattle.std.proofs.lemmas.List.Folds.{list_any_at, list_any_none}
use Rattle.std.proofs.lemmas.List.Sums.{position_or_len_is}
use Rattle.day.specs.declared.Refusal.{Refusal}
use Rattle.day.specs.Find.{find, find_none, find_here, none_found, some_found}
use Rattle.day.specs.Refusals.{refuse, refuse_at, anywhere, checked}

-- what a search over the periods says: it found none, or the first, counted from 1
abbrev pub unless_found : Option ℕ → Result Unit ℕ
unless_found None = Ok tt
unless_found (Some k) = Err (suc k)

-- and refuses by it
pub first_refused : (r : ℕ → Refusal) (found : Option ℕ) {searched : Result Unit ℕ} {answer : Result Unit Refusal} → searched ≡ unless_found found
    → (searched ≡ Ok tt → answer ≡ Ok tt)
    → ((i : ℕ) → searched ≡ Err i → answer ≡ Err (r i))
    → answer ≡ checked (refuse_at r found)
first_refused r None is none some = none is
first_refused r (Some k) is none some = some (suc k) is

-- of n periods the first i have been passed, and the test holds in none of these
pub record Searched (P : ℕ → Bool) (n i : ℕ) : Type 0 where
  pub inside : i ≤ n
  pub nothing : find P i ≡ None

module _ {P : ℕ → Bool} {n i : ℕ} (s : Searched P n i) where
  pub searched_next : P i ≡ false → i < n → Searched P n (i + 1)
  searched_next f l = record { inside = omega arith; nothing = rw add-one (find_none P i s.nothing f) }

  pub searched_all : n ≤ i → find P n ≡ None
  searched_all h =
      let e : i ≡ n = omega arith in
      rw e at s.nothing

  pub found_here : P i ≡ true → i < n → find P n ≡ Some i
  found_here t l = find_here P i n s.nothing t l

  pub refused_here : (r : ℕ → Refusal) → P i ≡ true → i < n → Err (r (i + 1)) ≡ checked (refuse_at r (find P n))
  refused_here r t l = rw (add-one, found_here t l) refl

  pub passed_all : (r : ℕ → Refusal) → n ≤ i → Ok tt ≡ checked (refuse_at r (find P n))
  passed_all r h = rw (searched_all h) refl

-- The library's searches over as many values as there are indices, where its test at value k says what P says of k
module _ {B : Type 0} (P : ℕ → Bool) (test : B → Bool) (xs : List B) (x : B) (same : (k : ℕ) → k < length xs → test (get_or xs k x) ≡ P k) where
  -- what `position` finds is the first
  pub find_position : {n : ℕ} → length xs ≡ n → find P n ≡ position test xs
  find_position long = subst (λ n. find P n ≡ position test xs) long (go (find P (length xs)) refl)
    where
      failing : (i : ℕ) → i ≤ length xs → find P i ≡ None → (k : ℕ) → k < i → test (get_or xs k x) ≡ false
      failing i h e k l = same k (omega arith) ∙ none_found P i e k l

      go : (o : Option ℕ) → find P (length xs) ≡ o → o ≡ position test xs
      go None e =
          let none = failing (length xs) (omega arith) e in
          let all = position_or_len_is test xs (length xs) x (omega arith) none (λ l. absurd (omega arith)) in
          rw (all, le-ltb (length xs) (length xs) (omega arith)) refl
      go (Some i) e =
          let f = some_found P (length xs) i e in
          let none : (k : ℕ) → k < i → test (get_or xs k x) ≡ false = λ k l. same k (omega (arith, f.inside)) ∙ f.first k l in
          let here = position_or_len_is test xs i x (omega (arith, f.inside)) none (λ l. same i l ∙ f.passes) in
          rw (here, lt-ltb i (length xs) f.inside) refl

  -- and `any` says whether there is one
  pub find_any : (r : Refusal) → {n : ℕ} → length xs ≡ n → refuse (list_any test xs) r ≡ anywhere (find P n) r
  find_any r long = subst (λ n. refuse (list_any test xs) r ≡ anywhere (find P n) r) long (go (find P (length xs)) refl)
    where
      go : (o : Option ℕ) → find P (length xs) ≡ o → refuse (list_any test xs) r ≡ anywhere o r
      go None e = rw (list_any_none test xs (λ k d l. ap test (get_or_default xs k d x l) ∙ same k l ∙ none_found P (length xs) e k l)) refl
      go (Some i) e = let f = some_found P (length xs) i e in rw (list_any_at test xs i x f.inside (same i f.inside ∙ f.passes)) refl
