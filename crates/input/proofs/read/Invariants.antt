-- What was read so far is within the buffer, and stands at its front.
use Rattle.std.proofs.Common.{◌≡◌, ◌≤◌, ◌-◌, length, take}
use Rattle.std.specs.Io.KnownBytes.{Consumes}
use Rattle.input.proofs.read.Given as goal

abbrev pub invariant-loop-have : goal.invariant-loop-have
invariant-loop-have g l = record {
  within : l.have ≤ length l.room;
  size : length l.room ≡ length l.initial.room;
  bytes : Consumes (g.R.Read.remaining l.initial.input) (g.R.Read.remaining l.input) (take l.have l.room);
}

abbrev pub decreases-loop-have : goal.decreases-loop-have
decreases-loop-have g l = length l.room - l.have
