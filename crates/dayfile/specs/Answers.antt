-- What the calls on day files answer, and what they leave in lent memory; the order of their tests.
-- Main definitions: `Lookup`, `Reading` and `Writing`, the contracts of the calls; `lookup_figures`, `read_figures`, `write_figures`. Assumes nothing.
use Rattle.std.specs.Prelude.{◌≡◌, List, [], ◌∷◌, ◌++◌, ℕ, ◌+◌, ◌-◌, ◌≤◌, length, drop, Option, None, Some, Result, Ok, Err}
use Rattle.std.specs.Borrow.{Bor}
use Rattle.day.specs.Sums.{at}
use Rattle.day.specs.Day.{Day, tables_of, periods}
use Rattle.day.specs.declared.Stamp.{Stamp}
use Rattle.day.specs.declared.Ends.{Ends}
use Rattle.day.specs.File.{body_length, body, next, record_at, number2, number4, periods_in, walk, wrong_stamp, no_such_period, charge_in, field, store_in}
use Rattle.day.specs.File.{day_in, file_of}
use Rattle.day.specs.Refusals.{Gives, first, bad_count, bad_slots, bad_value, table_tests}
use Rattle.day.specs.declared.Refusal.{Refusal}
use Rattle.day.specs.Figures.{Figures, accepted_with, refused_with, figures_by}
use Rattle.tables.specs.Filled.{shortest, with_first}
use Rattle.dayfile.specs.declared.lookup.Part.{Part}

-- a lookup: the walk (10, 11, 12), then 1, then 13
abbrev pub bad_lookup : List ℕ → ℕ → Option Refusal
bad_lookup s i = first (walk s ∷ bad_count (periods_in s) ∷ no_such_period (periods_in s) i ∷ [])

-- the body of the record at byte p, as that very part of the file: the same block of memory, so many bytes on
pub record BodyAt (file : Bor (List ℕ)) (p : ℕ) (r : Bor (List ℕ)) : Type 0 where
  pub bytes : r.now ≡ body file.now p
  pub block : r.ref_ptr.0 ≡ file.ref_ptr.0
  pub offset : r.ref_ptr.1 ≡ file.ref_ptr.1 + (p + 1)

-- refused, by number and period; else where the record of period i, counted from 1, begins, which is whole
abbrev pub Finds : List ℕ → ℕ → Result ℕ Refusal → Type 0
Finds s i (Err r) = Gives (bad_lookup s i) r
Finds s i (Ok p) = (bad_lookup s i ≡ None) × (p ≡ record_at s (i - 1)) × (next s p ≤ length s)

-- refused, by number and period; else the part handed out for period i, counted from 1: the body of its record
abbrev pub Lookup : Bor (List ℕ) → ℕ → Result (Bor (List ℕ)) Refusal → Type 0
Lookup file i (Err r) = Gives (bad_lookup file.now i) r
Lookup file i (Ok part) = (bad_lookup file.now i ≡ None) × BodyAt file (record_at file.now (i - 1)) part

-- the part alone, which is empty where the lookup is refused
abbrev pub PartOf : Option Refusal → Bor (List ℕ) → ℕ → Bor (List ℕ) → Type 0
PartOf None file i r = BodyAt file (record_at file.now (i - 1)) r
PartOf (Some refusal) file i r = r.now ≡ []

abbrev pub HandsOut : Bor (List ℕ) → ℕ → Bor (List ℕ) → Type 0
HandsOut file i r = PartOf (bad_lookup file.now i) file i r

-- a lookup in figures: where the part begins in the file, counted from 0, and how long it is
abbrev pub part_figures : Option Refusal → List ℕ → ℕ → Figures ℕ
part_figures None s i = let p = record_at s (i - 1) in accepted_with ((p + 1) ∷ body_length (at s p) ∷ [])
part_figures (Some r) s i = refused_with r

abbrev pub lookup_figures : List ℕ → ℕ → Figures ℕ
lookup_figures s i = part_figures (bad_lookup s i) s i

abbrev pub part_values : Part → List ℕ
part_values p = p.first ∷ p.size ∷ []

-- a reading: the walk (10, 11, 12), 20, then 1; and then 6, 3
abbrev pub file_tests : Option Stamp → List ℕ → List (Option Refusal)
file_tests expected s = walk s ∷ wrong_stamp expected s ∷ bad_count (periods_in s) ∷ []

abbrev pub bad_read : Option Stamp → List ℕ → ℕ → Option Refusal
bad_read expected s cells = first (file_tests expected s ++ (bad_slots cells (periods_in s) ∷ bad_value (day_in s) ∷ []))

-- tables whose first cells take the numbers of the file's periods: its day at their front
abbrev pub with_day : List ℕ → Day → Day
with_day s tables =
    let n = periods_in s in
    tables_of
    (with_first (field number2 0 s) n tables.demand)
    (with_first (field number2 2 s) n tables.capacity)
    (with_first (field number4 4 s) n tables.setup)
    (with_first (field number4 8 s) n tables.unit)
    (with_first (field number4 12 s) n tables.holding)
    (with_first (store_in s) n tables.store)

-- a day's tables at the front of the lent ones, whose later cells stay
abbrev pub with_tables : Day → Day → Day
with_tables d tables =
    let n = periods d in
    tables_of
    (d.demand ++ drop n tables.demand)
    (d.capacity ++ drop n tables.capacity)
    (d.setup ++ drop n tables.setup)
    (d.unit ++ drop n tables.unit)
    (d.holding ++ drop n tables.holding)
    (d.store ++ drop n tables.store)

-- a reading's answer: the count of periods, and the ends; in figures that count, A, Z
abbrev pub read_values : ℕ × Ends → List ℕ
read_values p = p.0 ∷ p.1.opening ∷ p.1.closing ∷ []

abbrev pub read_figures : Result (ℕ × Ends) Refusal → Figures ℕ
read_figures = figures_by read_values refused_with

-- refused, by number and period, no cell changes; accepted, the count of periods is given, with A and Z, and the periods' numbers fill
-- the tables' first cells
abbrev pub ReadingAs : Option Refusal → List ℕ → Day → Result (ℕ × Ends) Refusal → Day → Type 0
ReadingAs o s before (Err r) after = Gives o r × (after ≡ before)
ReadingAs o s before (Ok p) after =
    (o ≡ None) × (read_figures (Ok p) ≡ accepted_with (periods_in s ∷ charge_in 0 s ∷ charge_in 2 s ∷ [])) × (after ≡ with_day s before)

abbrev pub Reading : Option Stamp → List ℕ → Day → Result (ℕ × Ends) Refusal → Day → Type 0
Reading expected s before = ReadingAs (bad_read expected s (shortest before)) s before

-- a writing: 1, 2, 3, and 6 where the slice is shorter than the file
abbrev pub bad_write : Stamp → Day → ℕ → Option Refusal
bad_write t d room = first (table_tests d ++ (bad_slots room (length (file_of t d)) ∷ []))

-- the file stands at the slice's front, and later bytes stay
abbrev pub with_file : Stamp → Day → List ℕ → List ℕ
with_file t d out = file_of t d ++ drop (length (file_of t d)) out

-- a writing's answer in figures: the count of bytes
abbrev pub write_values : ℕ → List ℕ
write_values n = n ∷ []

abbrev pub write_figures : Result ℕ Refusal → Figures ℕ
write_figures = figures_by write_values refused_with

-- refused, by number and period, no byte changes; accepted, the file is written and its length given
abbrev pub Writing : Stamp → Day → List ℕ → Result ℕ Refusal → List ℕ → Type 0
Writing t d before (Err r) after = Gives (bad_write t d (length before)) r × (after ≡ before)
Writing t d before (Ok n) after =
    (bad_write t d (length before) ≡ None) × (write_figures (Ok n) ≡ accepted_with (length (file_of t d) ∷ [])) × (after ≡ with_file t d before)
