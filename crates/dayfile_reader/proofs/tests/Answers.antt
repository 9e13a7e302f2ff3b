-- `tests` gives the file's refusal, or that of the room after it, or that of the values.
use Rattle.std.specs.Prelude.{None}
use Rattle.std.proofs.Common.{◌≡◌, [], ◌∷◌, ◌++◌, refl, lt-ltb, le-ltb, rules}
use Rattle.day.specs.Refusals.{first, bad_slots, bad_value}
use Rattle.day.specs.Tests.{passed, refused, first_refused, first_passed, alone, group_decides}
use Rattle.day.specs.File.{periods_in, day_in}
use Rattle.dayfile.specs.Answers.{file_tests}
use Rattle.dayfile.specs.Passed.{file_passed}
use Rattle.dayfile_reader.proofs.tests.Goals as goal

pub returns-in_err-tests : goal.returns-in_err-tests
returns-in_err-tests c =
    let s = c.args.file.bytes.now in
    let tests = file_tests c.args.expected s in
    let room = bad_slots c.args.cells (periods_in s) in
    let r = first_refused tests (room ∷ bad_value (day_in s) ∷ []) (refused (first tests) c.tests.ensures c.in_err-tests.was) in
    rw r (search rules)

pub returns-then-cells-file : goal.returns-then-cells-file
returns-then-cells-file c =
    let s = c.args.file.bytes.now in
    let tests = file_tests c.args.expected s in
    let room = bad_slots c.args.cells (periods_in s) in
    let sound = passed (first tests) c.tests.ensures c.in_ok-tests.was in
    rw (first_passed tests (room ∷ bad_value (day_in s) ∷ []) sound, lt-ltb _ _ (rw c.args.file.counted at c.if-cells-file.true)) refl

pub values-requires : goal.values-requires
values-requires c =
    let s = c.args.file.bytes.now in
    let sound = passed (first (file_tests c.args.expected s)) c.tests.ensures c.in_ok-tests.was in
    rw c.args.file.counted (file_passed c.args.expected s sound)

pub returns : goal.returns
returns c =
    let s = c.args.file.bytes.now in
    let tests = file_tests c.args.expected s in
    let room = bad_slots c.args.cells (periods_in s) in
    let value = bad_value (day_in s) in
    let sound = passed (first tests) c.tests.ensures c.in_ok-tests.was in
    let fits : room ≡ None = simp (le-ltb _ _ (rw c.args.file.counted at c.if-cells-file.false)) in
    let ok : first (tests ++ (room ∷ [])) ≡ None = rw (first_passed tests (room ∷ []) sound, fits) refl in
    group_decides (tests ++ (room ∷ [])) (value ∷ []) ok (alone value c.values.ensures)
