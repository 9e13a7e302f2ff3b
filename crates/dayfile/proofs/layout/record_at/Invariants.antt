-- After so many turns the loop stands where that record begins.
use Rattle.std.proofs.Common.{◌≡◌}
use Rattle.day.specs.File.{record_at}
use Rattle.dayfile.proofs.layout.record_at.Given as goal

abbrev pub invariant-loop : goal.invariant-loop
invariant-loop l = l.at ≡ record_at l.file l.counter
