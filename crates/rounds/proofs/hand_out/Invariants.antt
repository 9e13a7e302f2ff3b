-- The first k amounts are handed out.
use Rattle.std.proofs.Common.{◌≡◌, length, take}
use Rattle.rounds.proofs.hand_out.Given as goal

abbrev pub invariant-loop-k : goal.invariant-loop-k
invariant-loop-k l = (length l.slots ≡ length l.best) × (take l.k l.slots ≡ take l.k l.best)
