-- No row is filled at first; a turn's stage is one of the periods, its rows have the cells that it asks for, and one more is filled.
use Rattle.std.proofs.Common.{◌≡◌, ◌∙◌, ◌*◌, ◌+◌, List, ℕ, arith, length, ap, append-nil, MutBor}
use Rattle.std.proofs.lemmas.List.{take_all, drop_all}
use Rattle.theory.specs.Parts.{part_size}
use Rattle.full_table.proofs.Filling.{filling_none, filling_staged, filling_ready, filling_more}
use Rattle.full_table.proofs.fill.Goals as goal

pub loop-i-init : goal.loop-i-init
loop-i-init c = filling_none c.args.p.bounded c.requires _ _ (omega arith) (omega (arith, c.requires.cost_cells))

pub stage_at-stage-requires : goal.stage_at-stage-requires
stage_at-stage-requires c = filling_staged c.args.p.bounded c.requires c.loop-i.invariant c.loop-i-test.true

pub step-requires : goal.step-requires
step-requires c =
    let b = take_all (length c.loop-i.before.now) c.loop-i.before.now (omega arith) in
    let a = take_all (length c.loop-i.after.now) c.loop-i.after.now (omega arith) in
    rw (b, a) (filling_ready c.args.p.bounded c.requires c.loop-i.invariant c.loop-i-test.true c.stage_at-stage.ensures _
    (part_size c.loop-i.choices (c.loop-i.i * (c.args.total + 1))))

pub loop-i-preserved : goal.loop-i-preserved
loop-i-preserved c =
    let b = take_all (length c.loop-i.before.now) c.loop-i.before.now (omega arith) in
    let a = take_all (length c.loop-i.after.now) c.loop-i.after.now (omega arith) in
    let d = drop_all (length c.loop-i.after.now) c.loop-i.after.now (omega arith) in
    let x : c.swap.new.x.now ≡ c.step.new.after = ap (λ (r : MutBor (List ℕ)). r.now) c.swap.ensures.x_after ∙ rw d (append-nil _) in
    let y : c.swap.new.y.now ≡ c.loop-i.before.now = ap (λ (r : MutBor (List ℕ)). r.now) c.swap.ensures.y_after in
    let stepped = rw b at c.step.ensures in
    rw (x, y) (filling_more c.args.p.bounded c.requires c.loop-i.invariant c.loop-i-test.true c.stage_at-stage.ensures c.step.new.choices stepped
    (c.step.auto.after ∙ ap length a) (c.step.auto.choices ∙ part_size c.loop-i.choices (c.loop-i.i * (c.args.total + 1))))
