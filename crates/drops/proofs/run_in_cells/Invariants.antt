-- `used` of the allowed trials are made.
use Rattle.day.specs.Lent.{lent_day}
use Rattle.drops.proofs.Running.{Running}
use Rattle.drops.proofs.run_in_cells.Given as goal

abbrev pub invariant-loop-used : goal.invariant-loop-used
invariant-loop-used l = Running (lent_day l.ready.day) l.trials l.allowed l.marks l.best l.plan l.s l.used
