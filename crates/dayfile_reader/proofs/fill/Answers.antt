-- A whole period stands where a turn begins: its numbers go to cell k of each table.
use Rattle.std.proofs.Common.{◌≡◌, arith}
use Rattle.dayfile_reader.specs.Tables.{period_here, read_turn}
use Rattle.dayfile_reader.proofs.fill.Goals as goal

pub period-p-requires : goal.period-p-requires
period-p-requires c = period_here _ _ _ _ _ _ c.args.file.counted c.loop-k.invariant c.loop-k-test.true

pub next-at-requires : goal.next-at-requires
next-at-requires c = omega (arith, (period_here _ _ _ _ _ _ c.args.file.counted c.loop-k.invariant c.loop-k-test.true).whole)

pub loop-k-preserved : goal.loop-k-preserved
loop-k-preserved c =
    read_turn _ _ _ _ _ _ _ c.loop-k.invariant c.loop-k-test.true c.requires c.next-at.ensures c.period-p.ensures c.put.ensures

pub returns : goal.returns
returns c =
    let w = c.loop-k.invariant.filled in
    let e : c.loop-k.k ≡ c.args.file.periods = omega (arith, w.done) in
    rw (← c.args.file.counted, ← e) w.tables
