-- What a C program sees of a call: some answer that the call may give, by its code and its out-array (include/yakkurem.h).
-- Main definitions: `Shows`, and of each kind of call `PathShows`, `EqualShows`, `BoundsShows`, `BigShows`, `ReadShows`, `LookupShows`, `WriteShows`,
-- `LoadShows`. Assumes nothing.
use Rattle.std.specs.Prelude.{◌≡◌, List, ℕ, Result}
use Rattle.std.specs.Borrow.{MutBor}
use denote.Triple.Both.{Both}
use Rattle.day.specs.declared.Ends.{Ends}
use Rattle.day.specs.declared.Stamp.{Stamp}
use Rattle.day.specs.declared.Refusal.{Refusal}
use Rattle.day.specs.Figures.{Figures, answer_figures, equal_figures, bounds_figures, big_figures}
use Rattle.day.specs.Outcome.{Path, Memory, Runs}
use Rattle.day.specs.Loads.{EqualRuns}
use Rattle.day.specs.Ranges.{Bounding}
use Rattle.day.specs.Drops.{Dropping}
use Rattle.day.specs.Lent.{Lent, LentMut, day_before, tables_lent, tables_after}
use Rattle.dayfile.specs.Answers.{Reading, Writing, lookup_figures, read_figures, write_figures}
use Rattle.test_load.specs.Load.{Loading}
use Rattle.codes.specs.Codes.{seen, seen_of, check_code, expected_of}

abbrev pub LookupShows : (file : Lent) → ℕ → (part : LentMut) → ℕ → Type 0
LookupShows file i part r =
    seen r part.exit.now ≡ seen_of part.entry.now (lookup_figures file.entry.now i)

-- some answer that the call may give, and what is seen of it: code r, and the out-array as the call finds and leaves it
pub record Shows {A B : Type 0} (Given : A → Type 0) (figures : A → Figures B) (out : Both (MutBor (List B)) (MutBor (List B))) (r : ℕ) : Type 0 where
  pub answer : A
  pub given : Given answer
  pub shown : seen r out.exit.now ≡ seen_of out.entry.now (figures answer)

abbrev pub PathShows : Path → (demand capacity setup unit holding store : Lent) → Ends → (before after : Memory) → (answer : LentMut) → ℕ → Type 0
PathShows P demand capacity setup unit holding store ends before after answer r =
    Shows (λ a. Runs P (day_before demand capacity setup unit holding store ends) before a after) answer_figures answer r

abbrev pub EqualShows : (demand capacity setup unit holding store : Lent) → Ends → (before after : Memory) → (answer : LentMut) → ℕ → Type 0
EqualShows demand capacity setup unit holding store ends before after answer r =
    Shows (λ a. EqualRuns (day_before demand capacity setup unit holding store ends) before a after) equal_figures answer r

abbrev pub BoundsShows : (lowest demand capacity setup unit holding store : Lent) → Ends → (before after : Memory) → (answer : LentMut) → ℕ → Type 0
BoundsShows lowest demand capacity setup unit holding store ends before after answer r =
    Shows (λ a. Bounding lowest.entry.now (day_before demand capacity setup unit holding store ends) before a after) bounds_figures answer r

abbrev pub BigShows : (trials : ℕ) (demand capacity setup unit holding store : Lent) → Ends → (before after : Memory) → (answer : LentMut) → ℕ → Type 0
BigShows trials demand capacity setup unit holding store ends before after answer r =
    Shows (λ a. Dropping trials (day_before demand capacity setup unit holding store ends) before a after) big_figures answer r

abbrev pub ReadShows : (file expected : Lent) (demand capacity setup unit holding store day : LentMut) → ℕ → Type 0
ReadShows file expected demand capacity setup unit holding store day r =
    Shows
    (λ a.
    Reading
    (expected_of expected.entry.now)
    file.entry.now
    (tables_lent demand capacity setup unit holding store)
    a
    (tables_after demand capacity setup unit holding store))
    read_figures
    day
    r

abbrev pub WriteShows : Stamp → (demand capacity setup unit holding store : Lent) → Ends → (out count : LentMut) → ℕ → Type 0
WriteShows stamp demand capacity setup unit holding store ends out count r =
    Shows
    (λ a. Writing stamp (day_before demand capacity setup unit holding store ends) out.entry.now a out.exit.now)
    write_figures
    count
    r

-- a test load has no out-array: some answer that it may give, by its code alone
pub record LoadShows (seed n : ℕ) (demand capacity setup unit holding store : LentMut) (r : ℕ) : Type 0 where
  pub answer : Result Unit Refusal
  pub given : Loading seed n (tables_lent demand capacity setup unit holding store) answer (tables_after demand capacity setup unit holding store)
  pub shown : r ≡ check_code answer
