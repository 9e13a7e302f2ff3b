-- The states from s on are written.
use Rattle.std.proofs.Common.{◌-◌, ◌≤◌, length}
use Rattle.equal_runs.specs.Fill.{Advanced}
use Rattle.equal_runs.proofs.advance.Given as goal

abbrev pub invariant-loop-s : goal.invariant-loop-s
invariant-loop-s l =
    (l.s ≤ length l.initial.row)
    × Advanced l.p l.sizes l.s (length l.initial.row - 1) l.initial.row l.row 0 l.initial.picks l.picks
