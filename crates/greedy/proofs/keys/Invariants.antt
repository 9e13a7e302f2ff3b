-- The keys from period k on are written.
use Rattle.greedy.specs.Keys.{Keying}
use Rattle.greedy.proofs.keys.Given as goal

abbrev pub invariant-loop-k : goal.invariant-loop-k
invariant-loop-k l = Keying l.unit l.holding l.k l.held l.fn.cells l.cells
