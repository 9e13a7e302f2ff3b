-- The loop has passed n whole periods and stands where record n begins; the measure is what is left of the file.
use Rattle.std.proofs.Common.{◌-◌, length}
use Rattle.dayfile.specs.Layout.{Walked}
use Rattle.dayfile.proofs.layout.periods.Given as goal

abbrev pub invariant-loop-at : goal.invariant-loop-at
invariant-loop-at l = Walked l.file l.n l.at

abbrev pub decreases-loop-at : goal.decreases-loop-at
decreases-loop-at l = length l.file - l.at
