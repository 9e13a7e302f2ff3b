-- Refused by its tests, `read` touches nothing; else it fills the tables.
use Rattle.std.specs.Prelude.{Option, Result}
use Rattle.std.proofs.Common.{◌≡◌, List, ℕ, ◌∙◌, refl, ap, ap₂}
use Rattle.std.specs.Borrow.{Bor}
use Rattle.std.proofs.lemmas.Result.{err_from_is_err_and}
use Rattle.day.specs.declared.Refusal.{Refusal}
use Rattle.day.specs.declared.Stamp.{Stamp}
use Rattle.day.specs.Day.{tables_of, ends_of}
use Rattle.day.specs.Refusals.{checked}
use Rattle.day.specs.Tests.{passed, refused, is_gives}
use Rattle.day.specs.File.{periods_in, day_in}
use Rattle.tables.specs.Filled.{shortest}
use Rattle.dayfile.specs.Answers.{with_day, bad_read}
use Rattle.dayfile_reader.specs.Tables.{read_passed}
use Rattle.dayfile_reader.proofs.read.Goals as goal

-- what was tested is the very file, for the lent tables' cells
tested : (expected : Option Stamp) {s t : List ℕ} {cells room : ℕ} {answer : Result Unit Refusal} → s ≡ t → cells ≡ room
    → answer ≡ checked (bad_read expected s cells) → answer ≡ checked (bad_read expected t room)
tested expected e l is = is ∙ ap₂ (λ (s : List ℕ) (n : ℕ). checked (bad_read expected s n)) e l

pub returns-in_err-tests : goal.returns-in_err-tests
returns-in_err-tests c =
    let a = c.args in
    let same = ap (λ (b : Bor (List ℕ)). b.now) c.new-file.ensures in
    let p = err_from_is_err_and c.from_residual.result c.from_residual.ensures.1 in
    let is = tested a.expected same c.shortest-cells.ensures c.tests.ensures in
    rw (p.1, p.2) (is_gives (refused _ is c.in_err-tests.was), refl)

pub fill-requires : goal.fill-requires
fill-requires c =
    let a = c.args in
    let lent = tables_of a.demand.now a.capacity.now a.setup.now a.unit.now a.holding.now a.store.now in
    let same = ap (λ (b : Bor (List ℕ)). b.now) c.new-file.ensures in
    let tests = tested a.expected same c.shortest-cells.ensures c.tests.ensures in
    let admitted = passed (bad_read a.expected a.file.now (shortest lent)) tests c.in_ok-tests.was in
    let n : c.new-file.result.periods ≡ periods_in a.file.now = c.new-file.result.counted ∙ ap periods_in same in
    rw n (read_passed a.expected a.file.now lent admitted).cells

pub returns : goal.returns
returns c =
    let a = c.args in
    let lent = tables_of a.demand.now a.capacity.now a.setup.now a.unit.now a.holding.now a.store.now in
    let same = ap (λ (b : Bor (List ℕ)). b.now) c.new-file.ensures in
    let tests = tested a.expected same c.shortest-cells.ensures c.tests.ensures in
    let admitted = passed (bad_read a.expected a.file.now (shortest lent)) tests c.in_ok-tests.was in
    let n : c.new-file.result.periods ≡ periods_in a.file.now = c.new-file.result.counted ∙ ap periods_in same in
    let given : c.ends.result ≡ ends_of (day_in a.file.now) = c.ends.ensures ∙ ap (λ (s : List ℕ). ends_of (day_in s)) same in
    (admitted, rw (n, given) refl, c.fill.ensures ∙ ap (λ (s : List ℕ). with_day s lent) same)
