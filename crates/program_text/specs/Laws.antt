-- What the reading's answer tells, and the text that it leads to. Main statements: `reading_few`; `input_taken`, `taken_limits`; `file_taken`. Assumes
-- nothing.
use Rattle.std.specs.Prelude.{◌≡◌, refl, List, [], ◌∷◌, ◌++◌, ℕ, ◌≤◌, Option, None, Result, Ok, Err, IfOk}
use Rattle.std.proofs.Common.{sym, ap, subst, ◌∙◌, arith}
use Rattle.std.proofs.lemmas.List.{length-replicate}
use Rattle.day.specs.declared.Refusal.{Refusal}
use Rattle.day.specs.declared.Ends.{Ends}
use Rattle.day.specs.declared.Stamp.{Stamp}
use Rattle.day.specs.Sums.{length-list_of}
use Rattle.day.specs.Day.{Day, periods, max_periods}
use Rattle.day.specs.Refusals.{first, bad_count, bad_slots, bad_value, table_tests}
use Rattle.day.specs.File.{periods_in, number2, field, day_in}
use Rattle.day.specs.Tests.{first_two}
use Rattle.day.specs.Figures.{first_value}
use Rattle.checks.specs.Passed.{Limits, tables_passed, lengths_pass}
use Rattle.tables.specs.Filled.{shortest, first_of}
use Rattle.tables.specs.Longest.{blank, held}
use Rattle.dayfile.specs.Answers.{file_tests, bad_read, Reading}
use Rattle.dayfile.specs.Passed.{each_passed, read_given}
use Rattle.dayfile.specs.Layout.{day_lengths, day_in_front}
use Rattle.dayfile_reader.specs.Tables.{read_passed}
use Rattle.program_text.specs.declared.Program.{Program}
use Rattle.program_text.specs.Text.{expected_in, too_long, bad_input, Inputs, SaysDay, PrintedText}

-- a file that the reader takes has at most 96 periods
pub reading_few : (expected : Option Stamp) (s : List ℕ) (before after : Day) (answer : Result (ℕ × Ends) Refusal)
    → Reading expected s before answer after
    → IfOk answer (λ p. p.0 ≤ max_periods)
reading_few expected s before after (Err r) q = tt
reading_few expected s before after (Ok p) q = omega (arith, (read_passed expected s before q.0).few, first_value q.1)

blank_shortest : shortest (held blank) ≡ 96
blank_shortest = rw (length-replicate {A = ℕ} 96 0) refl

-- an accepted file: no test refuses, and its day stands at the tables' front
pub record Taken (expected : Option Stamp) (s : List ℕ) (after : Day) (n : ℕ) (ends : Ends) : Type 0 where
  pub passed : bad_input expected s 96 ≡ None
  pub day : first_of n after ends ≡ day_in s

pub input_taken : (expected : Option Stamp) (s : List ℕ) (after : Day) (p : ℕ × Ends) → Inputs expected s (held blank) (Ok p) after
    → Taken expected s after p.0 p.1
input_taken expected s after p q =
    let given = read_given s p.0 p.1 q.1 in
    record {
      passed = subst (λ (k : ℕ). bad_input expected s k ≡ None) blank_shortest q.0;
      day = day_in_front s p.0 p.1 (held blank) after given.0 given.1 q.2;
    }

-- such a day has passed 1, 2 and 3
pub taken_limits : {expected : Option Stamp} {s : List ℕ} {after : Day} {n : ℕ} {ends : Ends} → Taken expected s after n ends
    → Limits (first_of n after ends)
taken_limits {expected} {s} w =
    let read = (first_two (too_long s) (bad_read expected s 96) w.passed).1 in
    let each = each_passed (file_tests expected s ++ (bad_slots 96 (periods_in s) ∷ bad_value (day_in s) ∷ [])) read in
    let counts : bad_count (periods (day_in s)) ≡ None = ap bad_count (length-list_of (field number2 0 s) (periods_in s)) ∙ each.1.1.0 in
    let passed : first (table_tests (day_in s)) ≡ None = rw (counts, lengths_pass (day_in s) (day_lengths s), each.1.1.1.1.0) refl in
    subst Limits (sym w.day) (tables_passed (day_in s) passed)

-- the text of an accepted file is what the program says of its day
pub file_taken : (program : Program) (s needs id text : List ℕ) {tables : Day} {n : ℕ} {ends : Ends} → Taken (expected_in id) s tables n ends
    → SaysDay program needs (first_of n tables ends) text
    → PrintedText program s needs id text
file_taken program s needs id text w says = rw w.passed (subst (λ (d : Day). SaysDay program needs d text) w.day says)
