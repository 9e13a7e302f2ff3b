-- The first i cells are alike.
use Rattle.std.proofs.Common.{◌≡◌, length, take}
use Rattle.equal_rows.proofs.copy.Given as goal

abbrev pub invariant-loop-i : goal.invariant-loop-i
invariant-loop-i l = (length l.to ≡ length l.from) × (take l.i l.to ≡ take l.i l.from)
