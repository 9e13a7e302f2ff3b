-- The refusal of the room, after the tables' tests; else the file, of the length that was summed.
use Rattle.std.proofs.Common.{◌≡◌, ◌+◌, [], ◌∷◌, ℕ, refl, ap, arith, length, lt-ltb, le-ltb}
use Rattle.std.specs.Prelude.{None}
use Rattle.day.specs.Sums.{at}
use Rattle.day.specs.Day.{Day}
use Rattle.day.specs.Lent.{lent_day}
use Rattle.day.specs.declared.Stamp.{Stamp}
use Rattle.day.specs.Refusals.{first, table_tests, bad_slots}
use Rattle.day.specs.Tests.{passed, is_gives, first_passed}
use Rattle.day.specs.File.{charges_of, file_of}
use Rattle.checks.specs.Passed.{Limits, tables_passed}
use Rattle.dayfile.specs.Answers.{bad_write}
use Rattle.dayfile.specs.Theorems.{record_bytes}
use Rattle.dayfile_writer.specs.RoundTrip.{file_length}
use Rattle.dayfile_writer.proofs.write.Goals as goal

-- the sum is the file's length
size_is : (t : Stamp) (d : Day) (head records : ℕ) → Limits d → head ≡ 5 + length (charges_of d.opening d.closing)
    → records ≡ record_bytes (at d.store) (length d.store) → head + records + 3 ≡ length (file_of t d)
size_is t d head records w h r =
    let same = ap (record_bytes (at d.store)) w.lengths.store in
    omega (arith, file_length t d, h, r, same)

pub returns-then-out-size : goal.returns-then-out-size
returns-then-out-size c =
    let a = c.args in
    let d = lent_day a.day in
    let admitted : first (table_tests d) ≡ None = passed _ c.tables.ensures c.in_ok-tables.was in
    let is = size_is a.stamp d _ _ (tables_passed d admitted) c.head_size.ensures.is c.records_size.ensures.is in
    let last = bad_slots (length a.out.now) (length (file_of a.stamp d)) in
    (is_gives (rw (first_passed (table_tests d) (last ∷ []) admitted, ← is, lt-ltb _ _ c.if-out-size.true) refl), refl)

pub put_file-requires-clause-room : goal.put_file-requires-clause-room
put_file-requires-clause-room c =
    let a = c.args in
    let d = lent_day a.day in
    let admitted : first (table_tests d) ≡ None = passed _ c.tables.ensures c.in_ok-tables.was in
    rw (size_is a.stamp d _ _ (tables_passed d admitted) c.head_size.ensures.is c.records_size.ensures.is) at c.if-out-size.false

pub returns : goal.returns
returns c =
    let a = c.args in
    let d = lent_day a.day in
    let admitted : first (table_tests d) ≡ None = passed _ c.tables.ensures c.in_ok-tables.was in
    let is = size_is a.stamp d _ _ (tables_passed d admitted) c.head_size.ensures.is c.records_size.ensures.is in
    let last = bad_slots (length a.out.now) (length (file_of a.stamp d)) in
    let ok : bad_write a.stamp d (length a.out.now) ≡ None =
    rw (first_passed (table_tests d) (last ∷ []) admitted, ← is, le-ltb _ _ c.if-out-size.false) refl in
    (ok, rw is refl, c.put_file.ensures)
