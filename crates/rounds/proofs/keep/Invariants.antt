-- The first k amounts are kept.
use Rattle.std.proofs.Common.{◌≡◌, length, take}
use Rattle.rounds.proofs.keep.Given as goal

abbrev pub invariant-loop-k : goal.invariant-loop-k
invariant-loop-k l = (length l.best ≡ length l.plan) × (take l.k l.best ≡ take l.k l.plan)
