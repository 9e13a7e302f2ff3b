-- Each lot put gives the plan's end from where it begins.
use Rattle.std.proofs.Common.{◌-◌, arith}
use Rattle.day.specs.Sums.{at}
use Rattle.uncapped.proofs.ReadBack.{begins_less, ends_more}
use Rattle.uncapped.proofs.slots.read_back.Goals as goal

pub loop-m-preserved : goal.loop-m-preserved
loop-m-preserved c =
    let a = c.args in
    let m = c.loop-m.m in
    let i = c.loop-m.invariant in
    let less = begins_less (at a.choices.now) c.requires.begins m (m - 1) (omega arith) i.0 in
    rw c.from-from.ensures (
      omega (arith, less),
      ends_more a.demand.now a.choices.now a.slots.now m (m - 1) (omega arith) i.0 _ _ (rw c.from-from.ensures at c.put_lot.ensures) i.1,
    )
