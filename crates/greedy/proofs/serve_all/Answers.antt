-- Where one need finds no capacity, the needs do not.
use Rattle.std.proofs.Common.{add-one}
use Rattle.greedy.specs.Search.{told_stuck}
use Rattle.greedy.proofs.serve_all.Goals as goal

pub returns-in_err-serve : goal.returns-in_err-serve
returns-in_err-serve c =
    rw c.from_residual.ensures
    (told_stuck _ _ _ _ _ _ _ _ (rw (add-one c.loop-k.k) at c.serve.ensures) c.loop-k.invariant _ c.loop-k-test.true c.in_err-serve.was)
