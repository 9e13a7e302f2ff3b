-- What is said of a record of kind 4 that is not as it must be, of the walk and so of every call on a file:
--     cut_limit       one that is cut short is refused 11
--     no_limit        one that holds 65,535 is refused 12 after its body, whatever follows
-- Assumes nothing.
use Rattle.std.specs.Prelude.{◌≡◌, refl, false, List, ℕ, ◌+◌, ◌≤◌, ◌<◌, length, Some}
use Rattle.std.proofs.Common.{◌∙◌, arith, lt-ltb, le-ltb, le-leb}
use Rattle.std.proofs.lemmas.Bool.{lt-leb}
use Rattle.day.specs.declared.Refusal.TheVariants.{TruncatedFile, WrongEnd}
use Rattle.day.specs.Sums.{at}
use Rattle.day.specs.Day.{max_store}
use Rattle.day.specs.File.{store_kind, body, next, number2, is_period, record_at, bad_end, walk}
use Rattle.dayfile.specs.Layout.{WholePeriod, walked, walk_stops, known_kind}

-- a record of kind 4 stands after n periods
module _ (s : List ℕ) (n : ℕ) (before : (i : ℕ) → i < n → WholePeriod s (record_at s i)) (here : at s (record_at s n) ≡ store_kind) where
  abbrev p : ℕ
  p = record_at s n

  far : next s p ≡ p + 19
  far = rw here (omega arith)

  stops : is_period s p ≡ false → walk s ≡ bad_end s p n
  stops bad = walk_stops s n p (walked s n before) bad

  pub cut_limit : length s < p + 19 → walk s ≡ Some TruncatedFile
  cut_limit l =
      let cut : length s < next s p = omega (arith, far) in
      stops (rw (lt-leb (next s p) (length s) cut, here) refl)
      ∙ rw (known_kind s p store_kind here refl, lt-ltb (length s) (next s p) cut, here) refl

  pub no_limit : p + 19 ≤ length s → number2 (body s p) 16 ≡ max_store → walk s ≡ Some WrongEnd
  no_limit l e =
      let whole : next s p ≤ length s = omega (arith, far) in
      stops (rw (le-leb (next s p) (length s) whole, e, here) refl)
      ∙ rw (known_kind s p store_kind here refl, le-ltb (length s) (next s p) whole, here) refl
