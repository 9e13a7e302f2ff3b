-- What the passed tests of these calls, and what they gave, tell a caller.
-- Main statements: `each_passed`, `file_passed`, `expected_stamp`, `lookup_passed`, `read_given`, `write_passed`. Assumes nothing.
use Rattle.std.proofs.lemmas.Option.{none-some}
use Rattle.std.specs.Prelude.{◌≡◌, refl, true, List, [], ◌∷◌, ◌++◌, ℕ, ◌≤◌, eqb, ltb, length, Option, None, Some, Ok}
use Rattle.std.proofs.Common.{sym, ap, arith, eqb-true, ltb-false}
use Rattle.std.proofs.lemmas.Bool.{false≢true, eqb-false, not-false}
use Rattle.std.proofs.Math.Bool.{and-eq-true_iff}
use Rattle.day.specs.declared.Ends.{Ends}
use Rattle.day.specs.declared.Stamp.{Stamp}
use Rattle.day.specs.Day.{Day, ends_of, max_periods}
use Rattle.day.specs.declared.Refusal.{Refusal}
use Rattle.day.specs.declared.Refusal.TheVariants.{FewSlots, NoSuchPeriod, WrongStamp}
use Rattle.day.specs.Refusals.{first, bad_count, bad_slots, table_tests}
use Rattle.day.specs.Tests.{not_refused, neither}
use Rattle.day.specs.File.{is_stamped, periods_in, walk, stamp_in, is_expected, wrong_stamp, no_such_period, charge_in, day_in, file_of}
use Rattle.day.specs.Figures.{accepted_with, same_values, first_value}
use Rattle.checks.specs.Passed.{count_passed}
use Rattle.dayfile.specs.Answers.{file_tests, bad_lookup, read_figures, bad_write}

-- in a list without refusals every test has passed
abbrev pub EachPassed : List (Option Refusal) → Type 0
EachPassed [] = Unit {0}
EachPassed (o ∷ rest) = (o ≡ None) × EachPassed rest

pub each_passed : (tests : List (Option Refusal)) → first tests ≡ None → EachPassed tests
each_passed [] e = tt
each_passed (None ∷ rest) e = (refl, each_passed rest e)
each_passed (Some r ∷ rest) e = absurd (none-some _ (sym e))

-- a file whose tests passed has at most 96 periods
pub file_passed : (expected : Option Stamp) (s : List ℕ) → first (file_tests expected s) ≡ None → periods_in s ≤ max_periods
file_passed expected s e = (count_passed (periods_in s) (each_passed (file_tests expected s) e).1.1.0).1

-- and the expected stamp
pub expected_stamp : (expected : Option Stamp) (s : List ℕ) → is_expected expected s ≡ true → (is_stamped s ≡ true) × (expected ≡ Some (stamp_in s))
expected_stamp None s e = absurd (false≢true e)
expected_stamp (Some t) s e =
    let w = (and-eq-true_iff _ _).0 e in
    let u = (and-eq-true_iff _ _).0 w.1 in
    let station = sym (eqb-true _ _ u.0) in
    let date = sym (eqb-true _ _ u.1) in
    (w.0, ap (λ (u : Stamp). Some u) (λ i. record { station = station i; date = date i }))

pub stamp_passed : (expected : Option Stamp) (s : List ℕ) → wrong_stamp expected s ≡ None → (is_stamped s ≡ true) × (expected ≡ Some (stamp_in s))
stamp_passed expected s e = expected_stamp expected s (not-false _ (not_refused _ WrongStamp e))

-- a lookup that is not refused asks for one of the file's periods
pub lookup_passed : (s : List ℕ) (i : ℕ) → bad_lookup s i ≡ None → (1 ≤ i) × (i ≤ periods_in s)
lookup_passed s i e =
    let n = periods_in s in
    let asked = (each_passed (walk s ∷ bad_count n ∷ no_such_period n i ∷ []) e).1.1.0 in
    let t = neither (eqb i 0) (ltb n i) (not_refused _ NoSuchPeriod asked) in
    let nonzero = eqb-false i 0 t.0 in
    (omega arith, ltb-false n i t.1)

-- what an accepted reading gave: the count of the file's periods, and its day's ends
pub read_given : (s : List ℕ) (n : ℕ) (ends : Ends)
    → read_figures (Ok (n, ends)) ≡ accepted_with (periods_in s ∷ charge_in 0 s ∷ charge_in 2 s ∷ [])
    → (n ≡ periods_in s) × (ends ≡ ends_of (day_in s))
read_given s n ends e =
    let same = same_values e in
    let opening : ends.opening ≡ charge_in 0 s = cc in
    let closing : ends.closing ≡ charge_in 2 s = cc in
    (first_value e, λ i. record { opening = opening i; closing = closing i })

-- a writing that is not refused has room for the file
pub write_passed : (t : Stamp) (d : Day) (room : ℕ) → bad_write t d room ≡ None → length (file_of t d) ≤ room
write_passed t d room e =
    let each = each_passed (table_tests d ++ (bad_slots room (length (file_of t d)) ∷ [])) e in
    ltb-false room (length (file_of t d)) (not_refused _ FewSlots each.1.1.1.0)
