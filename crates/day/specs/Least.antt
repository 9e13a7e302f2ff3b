-- What `min_by_key` picks of the values that come: the one of least key, the first of equals. Main statement: `picked`. Assumes nothing.
use Rattle.std.specs.Prelude.{◌≡◌, refl, Option, None, Some, List, [], ◌∷◌, ℕ}
use Rattle.std.proofs.Common.{sym, ap, ap₂, ◌∙◌, subst}
use Rattle.std.specs.Ordering.{nat_cmp, min_by_ordering}
use Rattle.std.specs.declared.cmp.Ordering.{Ordering}
use Rattle.std.specs.declared.cmp.Ordering.TheVariants.{Less, Equal, Greater}
use Rattle.std.specs.Fn.{CalledAt}
use Rattle.std.specs.List.{FoldsTo}
use Rattle.std.specs.Iterator.{KeyTurn, PicksMinByKey}
use Rattle.std.proofs.lemmas.Iterator.{YieldsList, items_from_drains}
use Rattle.std.proofs.lemmas.List.{map-id}
use denote.Param.Members.{Mut}
use denote.Ref.{Bor}

-- the one of lesser key, the first of equals
abbrev pub lesser : {A : Type 0} → (key : A → ℕ) → A → A → A
lesser key b k = min_by_ordering (nat_cmp (key b) (key k)) b k

abbrev pub least_from : {A : Type 0} → (key : A → ℕ) → A → List A → A
least_from key b [] = b
least_from key b (k ∷ ks) = least_from key (lesser key b k) ks

abbrev pub least : {A : Type 0} → (key : A → ℕ) → List A → Option A
least key [] = None
least key (k ∷ ks) = Some (least_from key k ks)

-- A closure that gives a value's key and stays as it is.
module _ {A F : Type 0} (g : Mut F (Bor A × Unit {0}) ℕ) (f : F) (key : A → ℕ)
    (gives : (k : A) (v : ℕ) (q : F) → CalledAt g f k v q → (q ≡ f) × (v ≡ key k)) where
  key_kept : (o : Ordering) (b k : A) → min_by_ordering o (key b) (key k) ≡ key (min_by_ordering o b k)
  key_kept Less b k = refl
  key_kept Equal b k = refl
  key_kept Greater b k = refl

  turns : (ks : List A) (p q : (F × ℕ) × A) → p.0.0 ≡ f → p.0.1 ≡ key p.1 → FoldsTo (KeyTurn min_by_ordering min_by_ordering g nat_cmp) p ks q
      → q.1 ≡ least_from key p.1 ks
  turns [] p q same is t = sym (ap (λ (z : (F × ℕ) × A). z.1) t)
  turns (k ∷ ks) p q same is t =
      let turn = t.1 in
      let given = gives k turn.0 t.0.0.0 (subst (λ (h : F). CalledAt g h k turn.0 t.0.0.0) same turn.2) in
      let order : turn.1 ≡ nat_cmp (key p.1) (key k) = sym turn.3 ∙ ap₂ nat_cmp is given.1 in
      let item : t.0.1 ≡ lesser key p.1 k = turn.5 ∙ ap (λ (o : Ordering). min_by_ordering o p.1 k) order in
      let held : t.0.0.1 ≡ key t.0.1 = turn.4 ∙ (ap₂ (min_by_ordering turn.1) is given.1 ∙ (key_kept turn.1 p.1 k ∙ ap key (sym turn.5))) in
      turns ks t.0 q given.0 held t.2 ∙ ap (λ (b : A). least_from key b ks) item

  -- what it picks of the values that come
  pub picked : {S : Type 0} {steps : S → Option A → S → Type 0} {s : S} (ks : List A) (r : Option A) → PicksMinByKey steps g nat_cmp s f r
      → YieldsList steps (λ k. k) s ks → r ≡ least key ks
  picked ks None d y = ap (least key) (sym (map-id []) ∙ items_from_drains [] (d.1.0, d.1.1, λ _. (d.0, d.1.2)) y)
  picked ks (Some b) m y =
      let d = m.5 in
      let all : m.0 ∷ m.1 ≡ ks = sym (map-id (m.0 ∷ m.1)) ∙ items_from_drains (m.0 ∷ m.1) (d.1.0, d.1.1, λ _. (d.0, d.1.2)) y in
      let first = gives m.0 m.2 m.3 m.6 in
      ap Some (turns m.1 ((m.3, m.2), m.0) (m.4, b) first.0 first.1 m.7) ∙ ap (least key) all
