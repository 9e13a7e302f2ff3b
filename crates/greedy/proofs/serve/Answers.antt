-- A turn of the service by the laws of `Search`: a batch from the best period, or none has capacity left; in the end nothing is left.
use Rattle.std.proofs.Common.{◌≡◌, ℕ, sym, ap, ◌∙◌, arith}
use Rattle.day.specs.Sums.{at}
use Rattle.theory.specs.Greedy.{serve, serve_done}
use Rattle.greedy.specs.Search.{served_turn, served_stuck}
use Rattle.greedy.proofs.serve.Goals as goal

pub returns-in_err-k : goal.returns-in_err-k
returns-in_err-k c =
    rw c.from_residual.ensures
    (served_stuck _ _ _ _ _ _ c.loop-left-test.true c.loop-left.invariant c.in_err-k.ensures)

pub loop-left-preserved : goal.loop-left-preserved
loop-left-preserved c =
    served_turn _ _ _ _ _ _ c.loop-left-test.true c.loop-left.invariant c.in_ok-k.k _ c.in_ok-k.ensures c.min-batch.ensures

pub returns : goal.returns
returns c =
    let keys = at c.args.from.keys.now in
    let capacity = at c.args.from.capacity.now in
    let e : c.loop-left.left ≡ 0 = omega arith in
    sym c.loop-left.invariant
    ∙ ap (λ (w : ℕ). serve keys capacity c.args.d w c.loop-left.slots) e
    ∙ serve_done keys capacity c.args.d c.loop-left.slots
