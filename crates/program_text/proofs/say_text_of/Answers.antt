-- What was read was taken for the stamp in `id`; the text is what the program says of the day that stands at the tables' front.
use Rattle.day.specs.Tests.{gives_is}
use Rattle.tables.specs.Longest.{held}
use Rattle.program_text.specs.Laws.{Taken, input_taken, taken_limits, file_taken}
use Rattle.program_text.specs.Text.{expected_in}
use Rattle.program_text.proofs.say_text_of.Goals as goal
use Rattle.program_text.proofs.say_text_of.Goals.{In-Ok}

taken : (c : In-Ok) → Taken (expected_in c.args.id.now) c.args.file.now (held c.read-answer.new.tables) c.in-Ok.n c.in-Ok.ends
taken c =
    let read = rw c.new-tables.ensures at c.in-Ok.ensures.read in
    rw c.expected.ensures at (input_taken c.expected.result c.args.file.now (held c.read-answer.new.tables) (c.in-Ok.n, c.in-Ok.ends) read)

pub day_text-requires : goal.day_text-requires
day_text-requires c = rw c.day.ensures (taken_limits (taken (goal.at.day_text-requires c).In-Ok))

pub returns : goal.returns
returns c =
    let a = c.args in
    let says = rw c.day.ensures at c.day_text.ensures in
    file_taken a.program a.file.now a.needs.now a.id.now _ (taken (goal.at.returns c).In-Ok) says

pub returns-in_default : goal.returns-in_default
returns-in_default c =
    let read = rw (c.new-tables.ensures, c.expected.ensures) at c.in_default.ensures.read in
    rw (gives_is read.0) (rw c.in_default.is at c.refused_text.ensures)
