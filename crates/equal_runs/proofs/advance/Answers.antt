-- One state more is written.
use Rattle.std.proofs.Common.{◌≡◌, ◌+◌, ◌-◌, ℕ, arith}
use Rattle.equal_runs.specs.Fill.{advanced_more}
use Rattle.equal_runs.proofs.advance.Goals as goal

pub loop-s-preserved : goal.loop-s-preserved
loop-s-preserved c =
    let s : ℕ = c.loop-s.s in
    let inv = c.loop-s.invariant in
    let z : 0 + (s - 1) ≡ s - 1 = omega arith in (
      omega arith,
      rw z at
          (advanced_more _ _ _ _ _ s _ (s - 1) _ _ c.state_after-state.result inv.1 (omega arith) (omega (arith, c.requires.0.inside)) (omega arith)
          c.state_after-state.ensures),
    )
