-- What is said of a record of kind 3 that is not as it must be, of the walk and so of every call on a file:
--     late_charges    one that stands neither first nor next to the stamp is refused 12 at its kind byte, also where the file ends inside it
--     cut_charges     one that stands there and is cut short is refused 11
--     zero_charges    one that stands there and holds two zeros is refused 12 after its body, whatever follows
-- Assumes nothing.
use Rattle.std.specs.Prelude.{◌≡◌, refl, false, List, ℕ, ◌+◌, ◌≤◌, ◌<◌, length, Some}
use Rattle.std.proofs.Common.{subst, ◌∙◌, arith, lt-ltb, le-ltb, le-leb, eq-eqb, ne_eqb}
use Rattle.std.proofs.lemmas.Bool.{lt-leb}
use Rattle.day.specs.declared.Refusal.TheVariants.{TruncatedFile, WrongEnd}
use Rattle.day.specs.Sums.{at}
use Rattle.day.specs.File.{charge_kind, body, next, number2, charges_at, has_charges, head_end, record_at, periods_in, bad_end, walk}
use Rattle.dayfile.specs.Layout.{Walked, walked_none, walk_stops, known_kind}

pub late_charges : (s : List ℕ) → at s (record_at s (periods_in s)) ≡ charge_kind → (record_at s (periods_in s) ≡ charges_at s → ⊥)
    → walk s ≡ Some WrongEnd
late_charges s e l =
    let p = record_at s (periods_in s) in
    rw (known_kind s p charge_kind e refl, eq-eqb (at s p) charge_kind e, ne_eqb p (charges_at s) l, e) refl

-- a record of kind 3 stands where charges may
module _ (s : List ℕ) (e : at s (charges_at s) ≡ charge_kind) where
  abbrev p : ℕ
  p = charges_at s

  far : next s p ≡ p + 5
  far = rw e (omega arith)

  -- one that is not as it must be ends the walk
  stops : has_charges s ≡ false → walk s ≡ bad_end s p 0
  stops bad = let none : head_end s ≡ p = rw bad refl in walk_stops s 0 p (subst (Walked s 0) none (walked_none s)) (rw e refl)

  pub cut_charges : length s < p + 5 → walk s ≡ Some TruncatedFile
  cut_charges l =
      let cut : length s < next s p = omega (arith, far) in
      stops (rw (lt-leb (next s p) (length s) cut, e) refl)
      ∙ rw (known_kind s p charge_kind e refl, lt-ltb (length s) (next s p) cut, eq-eqb p p refl, e) refl

  pub zero_charges : p + 5 ≤ length s → number2 (body s p) 0 ≡ 0 → number2 (body s p) 2 ≡ 0 → walk s ≡ Some WrongEnd
  zero_charges l a z =
      let whole : next s p ≤ length s = omega (arith, far) in
      stops (rw (le-leb (next s p) (length s) whole, a, z, e) refl)
      ∙ rw (known_kind s p charge_kind e refl, le-ltb (length s) (next s p) whole, eq-eqb p p refl, e) refl
