-- What is said of a record of kind 5 that is not as it must be. Of the walk, and so of every call on a file:
--     late_stamp          one that doesn't stand first is refused 12 at its kind byte, also where the file ends inside it
--     cut_stamp           one that stands first and is cut short is refused 11
-- Of the reader, from its contract (`Answers`):
--     stamp_refused       a file whose walk meets no fault, and which has not the expected stamp, is refused 20, whatever else it holds: one without
--                         a stamp (`no_stamp`), or with another (`other_stamp`)
--     nothing_accepted    where nothing is expected, no file is accepted
-- Assumes nothing.
use Rattle.std.proofs.lemmas.Option.{none-some}
use Rattle.std.specs.Prelude.{◌≡◌, refl, Bool, true, false, List, [], ◌∷◌, ◌++◌, ℕ, ◌<◌, length, Option, None, Some, Result, Ok, Err}
use Rattle.std.proofs.Common.{sym, ap, subst, ◌∙◌, arith, lt-ltb, eq-eqb, ne_eqb}
use Rattle.std.proofs.lemmas.Bool.{lt-leb}
use Rattle.day.specs.declared.Ends.{Ends}
use Rattle.day.specs.declared.Stamp.{Stamp}
use Rattle.day.specs.declared.Refusal.{Refusal}
use Rattle.day.specs.declared.Refusal.TheVariants.{TruncatedFile, WrongEnd, WrongStamp}
use Rattle.day.specs.Sums.{at}
use Rattle.day.specs.Day.{Day}
use Rattle.day.specs.Refusals.{bad_slots, bad_value}
use Rattle.day.specs.Tests.{gives_is}
use Rattle.day.specs.File.{stamp_kind, is_stamped, head_end, record_at, periods_in, bad_end, walk, stamp_in, is_expected, day_in}
use Rattle.tables.specs.Filled.{shortest}
use Rattle.dayfile.specs.Answers.{file_tests, bad_read, Reading}
use Rattle.dayfile.specs.Passed.{each_passed, expected_stamp}
use Rattle.dayfile.specs.Layout.{Walked, walked_none, walk_stops, known_kind}

pub late_stamp : (s : List ℕ) → at s (record_at s (periods_in s)) ≡ stamp_kind → 0 < record_at s (periods_in s) → walk s ≡ Some WrongEnd
late_stamp s e l =
    let p = record_at s (periods_in s) in
    rw (known_kind s p stamp_kind e refl, eq-eqb (at s p) stamp_kind e, ne_eqb p 0 (λ z. omega arith)) refl

pub cut_stamp : (s : List ℕ) → at s 0 ≡ stamp_kind → length s < 5 → walk s ≡ Some TruncatedFile
cut_stamp s e l =
    let none : is_stamped s ≡ false = rw (e, lt-leb 5 (length s) l) refl in
    let front : head_end s ≡ 0 = rw (none, e) refl in
    let stops : walk s ≡ bad_end s 0 0 = walk_stops s 0 0 (subst (Walked s 0) front (walked_none s)) (rw e refl) in
    stops ∙ rw (known_kind s 0 stamp_kind e refl) (rw (e, lt-ltb (length s) 5 l) refl)

pub stamp_refused : (expected : Option Stamp) (s : List ℕ) (before after : Day) (answer : Result (ℕ × Ends) Refusal)
    → walk s ≡ None → is_expected expected s ≡ false → Reading expected s before answer after
    → (answer ≡ Err WrongStamp) × (after ≡ before)
stamp_refused expected s before after answer walked other = go answer
  where
    refused : bad_read expected s (shortest before) ≡ Some WrongStamp
    refused = rw (walked, other) refl

    go : (answer : Result (ℕ × Ends) Refusal) → Reading expected s before answer after → (answer ≡ Err WrongStamp) × (after ≡ before)
    go (Err r) w = let e = sym (gives_is w.0) ∙ refused in let same : r ≡ WrongStamp = cc in (ap (λ (q : Refusal). Err q) same, w.1)
    go (Ok p) w = absurd (none-some _ (sym (sym refused ∙ w.0)))

pub no_stamp : (expected : Option Stamp) (s : List ℕ) → is_stamped s ≡ false → is_expected expected s ≡ false
no_stamp None s e = refl
no_stamp (Some t) s e = rw e refl

pub other_stamp : (expected : Option Stamp) (s : List ℕ) → (expected ≡ Some (stamp_in s) → ⊥) → is_expected expected s ≡ false
other_stamp expected s h = go (is_expected expected s) refl
  where
    go : (b : Bool) → is_expected expected s ≡ b → b ≡ false
    go true q = absurd (h (expected_stamp expected s q).1)
    go false q = refl

pub nothing_accepted : (s : List ℕ) (n : ℕ) (ends : Ends) (before after : Day) → Reading None s before (Ok (n, ends)) after → ⊥
nothing_accepted s n ends before after w =
    let each = each_passed (file_tests None s ++ (bad_slots (shortest before) (periods_in s) ∷ bad_value (day_in s) ∷ [])) w.0 in
    none-some _ (sym each.1.0)
