-- The lent tables: filled by the reader, period by period.
-- Main statements: `read_passed`, what an accepted reading tells; `read_turn`, a turn of the loop that fills. Assumes nothing.
use Rattle.std.specs.Prelude.{◌≡◌, refl, List, [], ◌∷◌, ◌++◌, ℕ, ◌+◌, ◌≤◌, ◌<◌, length, Option, None}
use Rattle.std.proofs.Common.{⊎_elim, add-one, arith, ltb-false}
use Rattle.day.specs.declared.Stamp.{Stamp}
use Rattle.day.specs.Day.{Day, max_periods}
use Rattle.day.specs.declared.Refusal.TheVariants.{FewSlots}
use Rattle.day.specs.Refusals.{bad_slots, bad_value}
use Rattle.day.specs.Tests.{not_refused}
use Rattle.day.specs.Sums.{at}
use Rattle.day.specs.File.{record_at, next, body, periods_in, walk, wrong_stamp, day_in}
use Rattle.day.specs.declared.Entries.{Entries}
use Rattle.tables.specs.Filled.{Cells, shortest, cells_enough, stored, Filled, filled_more}
use Rattle.dayfile.specs.Answers.{file_tests, bad_read}
use Rattle.checks.specs.Passed.{count_passed}
use Rattle.dayfile.specs.Passed.{each_passed}
use Rattle.dayfile.specs.Layout.{WholePeriod, body_whole, period_at}
use Rattle.dayfile_reader.specs.Numbers.{numbers_in}

-- what the tests of a reading leave: the walk met no fault, the stamp is the expected one, and the tables have a cell for each of at most 96 periods
pub record Taken (expected : Option Stamp) (s : List ℕ) (tables : Day) : Type 0 where
  pub walked : walk s ≡ None
  pub stamp : wrong_stamp expected s ≡ None
  pub few : periods_in s ≤ max_periods
  pub cells : Cells (periods_in s) tables

pub read_passed : (expected : Option Stamp) (s : List ℕ) (tables : Day) → bad_read expected s (shortest tables) ≡ None → Taken expected s tables
read_passed expected s tables e =
    let n = periods_in s in
    let each = each_passed (file_tests expected s ++ (bad_slots (shortest tables) n ∷ bad_value (day_in s) ∷ [])) e in
    record {
      walked = each.0;
      stamp = each.1.0;
      few = (count_passed n each.1.1.0).1;
      cells = cells_enough n tables (ltb-false (shortest tables) n (not_refused _ FewSlots each.1.1.1.0));
    }

-- the numbers of the file's period k + 1
abbrev pub numbers_at : List ℕ → ℕ → Entries
numbers_at s k = numbers_in (at s (record_at s k)) (body s (record_at s k))

-- the loop that fills the tables has read k periods and stands at byte p
pub record PeriodsRead (s : List ℕ) (n : ℕ) (before : Day) (k p : ℕ) (after : Day) : Type 0 where
  pub here : p ≡ record_at s k
  pub filled : Filled (numbers_at s) n before k after

-- a whole period stands there
pub period_here : (s : List ℕ) (n : ℕ) (before : Day) (k p : ℕ) (after : Day) → n ≡ periods_in s → PeriodsRead s n before k p after → k < n
    → WholePeriod s p
period_here s n before k p after e w l = rw w.here (period_at s k (omega arith))

-- its body has the five numbers at least that every period has
pub period_long : (s : List ℕ) (p : ℕ) → WholePeriod s p → 16 ≤ length (body s p)
period_long s p w =
    rw (body_whole s p w.whole) (⊎_elim (λ e. rw e (omega arith)) (λ e. rw e.0 (omega arith)) w.kind)

-- a turn of it: the next period's numbers go to cell k
pub read_turn : (s : List ℕ) (n : ℕ) (before : Day) (k p : ℕ) (after later : Day) {end : ℕ} {numbers : Entries}
    → PeriodsRead s n before k p after → k < n → Cells n before
    → end ≡ next s p → numbers ≡ numbers_in (at s p) (body s p) → later ≡ stored k numbers after
    → PeriodsRead s n before (k + 1) end later
read_turn s n before k p after later w l c to decoded put = record {
  here = rw (add-one, to, w.here) refl;
  filled = filled_more _ _ _ _ _ w.filled l c later (rw (decoded, w.here) at put);
}
