-- What the reader took has at most 96 periods.
use Rattle.tables.specs.Longest.{held}
use Rattle.program_text.specs.Laws.{reading_few}
use Rattle.program_text.proofs.read.Goals as goal

pub returns-clause-few : goal.returns-clause-few
returns-clause-few c =
    let a = c.args in
    reading_few a.expected a.file.now (held a.tables.now) _ c.read.result c.read.ensures
