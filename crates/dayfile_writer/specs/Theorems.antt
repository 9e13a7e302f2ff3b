-- What reader and writer do together, by their contracts `Reading` and `Writing`:
--     written_is_read     what the writer wrote with a stamp, the reader that expects it accepts: it fills the tables with the very day, and gives its
--                         ends
--     written_for_others  a reader that expects another stamp, or none, refuses it 20, and changes no cell
--     read_is_written     a file that the reader accepted is, byte for byte, what the writer makes of the tables that it filled, with the
--                         ends that it gave and the stamp that it expected
--     room_suffices       with room the writer refuses no day within the limits
-- Assumes nothing.
use Rattle.std.proofs.lemmas.Option.{none-some}
use Rattle.std.specs.Prelude.{◌≡◌, refl, true, List, [], ◌∷◌, ◌++◌, ℕ, ◌≤◌, length, take, drop, Option, None, Some, Result, Ok, Err}
use Rattle.std.proofs.Common.{sym, ap, ap₂, subst, ◌∙◌, le-ltb, eq-eqb, take_at}
use Rattle.day.specs.Sums.{length-list_of}
use Rattle.day.specs.declared.Ends.{Ends}
use Rattle.day.specs.declared.Stamp.{Stamp}
use Rattle.day.specs.Day.{Day, periods, ends_of}
use Rattle.day.specs.declared.Refusal.{Refusal}
use Rattle.day.specs.declared.Refusal.TheVariants.{WrongStamp}
use Rattle.day.specs.Refusals.{Gives, bad_count, bad_value, bad_slots, table_tests}
use Rattle.day.specs.Tests.{first_split, first_passed}
use Rattle.day.specs.Figures.{first_value}
use Rattle.day.specs.File.{number2, periods_in, stamp_in, same_stamp, is_expected, field, day_in, file_of}
use Rattle.checks.specs.Passed.{Limits, tables_passed, lengths_pass, tables_pass}
use Rattle.tables.specs.Filled.{shortest, first_of}
use Rattle.dayfile.specs.Answers.{file_tests, bad_read, bad_write, with_tables, Reading, Writing}
use Rattle.dayfile.specs.Passed.{each_passed, stamp_passed, read_given}
use Rattle.dayfile.specs.Layout.{laid_out, counted, walk_clean, day_lengths, day_in_front, with_day_lem}
use Rattle.dayfile.specs.Stamps.{stamp_refused, other_stamp}
use Rattle.dayfile_writer.specs.RoundTrip.{Bytes, only_file, file_stamp, file_layout, reads_back}

-- no refusal is given where there is none
not_given : {o : Option Refusal} {r : Refusal} → o ≡ None → Gives o r → ⊥
not_given e g = none-some _ (sym e ∙ g.is)

-- an accepted reading: the count of the day's periods and its ends are given, the tables' first cells are the day's tables, and later
-- cells stay
pub record DayRead (d before : Day) (answer : Result (ℕ × Ends) Refusal) (after : Day) : Type 0 where
  pub given : answer ≡ Ok (periods d, ends_of d)
  pub tables : after ≡ with_tables d before

-- an accepted writing: the count of the file's bytes is given, they stand at the slice's front, and later bytes stay
pub record FileWritten (file before : List ℕ) (answer : Result ℕ Refusal) (after : List ℕ) : Type 0 where
  pub count : answer ≡ Ok (length file)
  pub bytes : after ≡ file ++ drop (length file) before

-- where the tests refuse nothing, a writing is accepted
accepts : (t : Stamp) (d : Day) (before after : List ℕ) (answer : Result ℕ Refusal) → bad_write t d (length before) ≡ None → Writing t d before answer after
    → FileWritten (file_of t d) before answer after
accepts t d before after (Err r) e w = absurd (not_given e w.0)
accepts t d before after (Ok n) e w = record { count = ap (λ (n : ℕ). Ok n) (first_value w.1); bytes = w.2 }

pub room_suffices : (t : Stamp) (d : Day) (before after : List ℕ) (answer : Result ℕ Refusal) → Limits d → length (file_of t d) ≤ length before
    → Writing t d before answer after
    → FileWritten (file_of t d) before answer after
room_suffices t d before after answer limits room w =
    let last = bad_slots (length before) (length (file_of t d)) in
    let fits : last ≡ None = rw (le-ltb (length before) (length (file_of t d)) room) refl in
    accepts t d before after answer (first_passed (table_tests d) (last ∷ []) (tables_pass d limits) ∙ rw fits refl) w

pub read_is_written : (t : Stamp) (s : List ℕ) (n : ℕ) (ends : Ends) (before after : Day) (out out' : List ℕ) (answer : Result ℕ Refusal) → Bytes s
    → Reading (Some t) s before (Ok (n, ends)) after → Writing t (first_of n after ends) out answer out' → length s ≤ length out
    → FileWritten s out answer out'
read_is_written t s n ends before after out out' answer h r w room =
    let each = each_passed (file_tests (Some t) s ++ (bad_slots (shortest before) (periods_in s) ∷ bad_value (day_in s) ∷ [])) r.0 in
    let found = stamp_passed (Some t) s each.1.0 in
    let stamp : stamp_in s ≡ t = let e = found.1 in cc in
    let given = read_given s n ends r.1 in
    let day = day_in_front s n ends before after given.0 given.1 r.2 in
    let made : file_of t (day_in s) ≡ s = rw (← stamp) (sym (only_file s h found.0 (laid_out s each.0))) in
    let counts : bad_count (periods (day_in s)) ≡ None = ap bad_count (length-list_of (field number2 0 s) (periods_in s)) ∙ each.1.1.0 in
    let fits : bad_slots (length out) (length (file_of t (day_in s))) ≡ None =
    ap (λ (file : List ℕ). bad_slots (length out) (length file)) made ∙ rw (le-ltb (length out) (length s) room) refl in
    let ok : bad_write t (day_in s) (length out) ≡ None =
    rw (counts, lengths_pass (day_in s) (day_lengths s), each.1.1.1.1.0, fits) refl in
    subst
    (λ (file : List ℕ). FileWritten file out answer out')
    made
    (accepts t (day_in s) out out' answer ok (subst (λ (d : Day). Writing t d out answer out') day w))

-- what the writer wrote is the file
file_there : (t : Stamp) (d : Day) (n : ℕ) (out out' : List ℕ) → Writing t d out (Ok n) out' → take n out' ≡ file_of t d
file_there t d n out out' w = rw w.2 (take_at (file_of t d) (drop (length (file_of t d)) out) n (sym (first_value w.1)))

-- the file of a day that the writer took, with tables of a cell for each period
file_taken : (t : Stamp) (d : Day) (room cells : ℕ) → bad_write t d room ≡ None → periods d ≤ cells → bad_read (Some t) (file_of t d) cells ≡ None
file_taken t d room cells e l =
    let s = file_of t d in
    let last = bad_slots room (length s) in
    let limits = tables_passed d (first_split (table_tests d) (last ∷ []) e).0 in
    let each = each_passed (table_tests d ++ (last ∷ [])) e in
    let value = ap bad_value (reads_back t d limits.lengths (λ k l. (limits.within k l).store)) ∙ each.1.1.0 in
    let laid = file_layout t d in
    let same : same_stamp t t ≡ true = rw (eq-eqb t.station t.station refl, eq-eqb t.date t.date refl) refl in
    let stamped : is_expected (Some t) s ≡ true =
    rw (file_stamp t d).0 (ap (λ (u : Stamp). same_stamp u t) (file_stamp t d).1 ∙ same) in
    rw (value, walk_clean s (periods d) laid, stamped, counted s (periods d) laid, each.0, le-ltb cells (periods d) l) refl

pub written_is_read : (t : Stamp) (d : Day) (n : ℕ) (out out' : List ℕ) (before after : Day) (answer : Result (ℕ × Ends) Refusal)
    → Writing t d out (Ok n) out' → Reading (Some t) (take n out') before answer after → periods d ≤ shortest before
    → DayRead d before answer after
written_is_read t d n out out' before after answer w r room =
    let last = bad_slots (length out) (length (file_of t d)) in
    let limits = tables_passed d (first_split (table_tests d) (last ∷ []) w.0).0 in
    go answer
    (file_taken t d (length out) (shortest before) w.0 room)
    (reads_back t d limits.lengths (λ k l. (limits.within k l).store))
    (subst (λ (s : List ℕ). Reading (Some t) s before answer after) (file_there t d n out out' w) r)
  where
    s : List ℕ
    s = file_of t d

    go : (answer : Result (ℕ × Ends) Refusal) → bad_read (Some t) s (shortest before) ≡ None → day_in s ≡ d → Reading (Some t) s before answer after
        → DayRead d before answer after
    go (Err x) ok back q = absurd (not_given ok q.0)
    go (Ok p) ok back q = let given = read_given s p.0 p.1 q.1 in record {
      given = ap₂ (λ (k : ℕ) (ends : Ends). Ok (k, ends)) (given.0 ∙ counted s (periods d) (file_layout t d)) (given.1 ∙ ap ends_of back);
      tables = q.2 ∙ (with_day_lem s before ∙ ap (λ (e : Day). with_tables e before) back);
    }

pub written_for_others : (t : Stamp) (d : Day) (n : ℕ) (out out' : List ℕ) (expected : Option Stamp) (before after : Day) (answer : Result (ℕ × Ends) Refusal)
    → Writing t d out (Ok n) out' → (expected ≡ Some t → ⊥) → Reading expected (take n out') before answer after
    → (answer ≡ Err WrongStamp) × (after ≡ before)
written_for_others t d n out out' expected before after answer w other r =
    let s = file_of t d in
    let clean = walk_clean s (periods d) (file_layout t d) in
    let wrong = other_stamp expected s (λ e. other (e ∙ ap (λ (u : Stamp). Some u) (file_stamp t d).1)) in
    stamp_refused expected s before after answer clean wrong
    (subst (λ (s : List ℕ). Reading expected s before answer after) (file_there t d n out out' w) r)
