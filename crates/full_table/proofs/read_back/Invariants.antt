-- The slots from i on hold the end of the plan.
use Rattle.std.proofs.Common.{length}
use Rattle.full_table.proofs.Reading.{BackRead}
use Rattle.full_table.proofs.read_back.Given as goal

abbrev pub invariant-loop-i : goal.invariant-loop-i
invariant-loop-i l = BackRead l.choices (length l.fn.slots) l.total l.slots l.left l.i
