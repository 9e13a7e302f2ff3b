-- The actual needs are taken, and the lines of the margins are the text.
use Rattle.margin_text.proofs.say_day.Goals as goal

pub returns-in-Ok : goal.returns-in-Ok
returns-in-Ok c = rw (c.in-Ok.ensures.passed, ← c.in-Ok.ensures.taken) (rw c.deref.ensures.0 at c.margin_lines.ensures)
