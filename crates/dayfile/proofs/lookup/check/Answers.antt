-- The tests are of the very file.
use Rattle.std.proofs.Common.{List, ℕ, ◌∙◌, ap}
use Rattle.std.specs.Borrow.{Bor}
use Rattle.day.specs.Refusals.{checked}
use Rattle.day.specs.Figures.{is_checks}
use Rattle.dayfile.specs.Answers.{bad_lookup}
use Rattle.dayfile.proofs.lookup.check.Goals as goal

pub returns : goal.returns
returns c = is_checks _ _ (c.tests.ensures ∙ ap (λ (file : Bor (List ℕ)). checked (bad_lookup file.now c.args.period)) c.new.ensures)
