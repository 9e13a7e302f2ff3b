-- What a program prints for a day file: `dayplan` and `margins`; the stamp that it expects.
-- Main definitions: `expected_in`, the expected stamp; `Inputs`, the reading of a file that is not too long; `PrintedText`, the contract of the text.
-- Assumes nothing.
use Rattle.std.specs.Prelude.{◌≡◌, cond, List, [], ◌∷◌, ℕ, eqb, ltb, length, Option, None, Some, Result}
use Rattle.day.specs.declared.Refusal.{Refusal}
use Rattle.day.specs.declared.Refusal.TheVariants.{WrongEnd}
use Rattle.day.specs.declared.Ends.{Ends}
use Rattle.day.specs.declared.Stamp.{Stamp}
use Rattle.day.specs.Day.{Day}
use Rattle.day.specs.Refusals.{refuse, first}
use Rattle.day.specs.File.{stamp_kind, body_length, stamp_of, day_in}
use Rattle.tables.specs.Filled.{shortest}
use Rattle.dayfile.specs.Answers.{bad_read, ReadingAs}
use Rattle.lines.specs.Text.{refusal_line}
use Rattle.plan_text.specs.Text.{SaysPlanOf}
use Rattle.margin_text.specs.Margins.{SaysMarginsOf}
use Rattle.program_text.specs.declared.Program.{Program}
use Rattle.program_text.specs.declared.Program.TheVariants.{Dayplan, Margins}

-- the stamp that the bytes of `station.id` hold, laid out as the body of kind 5; none where they are fewer or more
abbrev pub expected_in : List ℕ → Option Stamp
expected_in id = cond (eqb (length id) (body_length stamp_kind)) (Some (stamp_of id)) None

-- 12: more than 1,837 bytes, which are those of a stamp, both ends, 96 periods with store limits and the end
abbrev pub too_long : List ℕ → Option Refusal
too_long s = refuse (ltb 1837 (length s)) WrongEnd

-- the first refusal of a file: its length, the reader's tests
abbrev pub bad_input : Option Stamp → List ℕ → (cells : ℕ) → Option Refusal
bad_input expected s cells = first (too_long s ∷ bad_read expected s cells ∷ [])

-- a reading, with the length tested first
abbrev pub Inputs : Option Stamp → List ℕ → Day → Result (ℕ × Ends) Refusal → Day → Type 0
Inputs expected s before = ReadingAs (bad_input expected s (shortest before)) s before

-- what the program says of a day: `dayplan` its plan, `margins` each margin's cost, missed and spilled, against the bytes of actual needs; or a refusal
abbrev pub SaysDay : Program → (needs : List ℕ) → Day → List ℕ → Type 0
SaysDay Dayplan needs d = SaysPlanOf d
SaysDay Margins needs d = SaysMarginsOf needs d

-- where the file is refused, the refusal's line is all; else what the program says of its day
abbrev pub SaysFile : Option Refusal → Program → (needs : List ℕ) → Day → List ℕ → Type 0
SaysFile (Some r) program needs d text = text ≡ refusal_line r
SaysFile None program needs d text = SaysDay program needs d text

-- text is what the program prints for a file
abbrev pub PrintedText : Program → (file needs id text : List ℕ) → Type 0
PrintedText program s needs id = SaysFile (bad_input (expected_in id) s 96) program needs (day_in s)
