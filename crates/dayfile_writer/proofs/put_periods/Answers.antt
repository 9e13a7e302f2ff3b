-- What a turn copies is the record of its period, for which there is room.
use Rattle.std.proofs.Common.{◌≡◌, ◌+◌, ◌≤◌, suc, arith, add-one, length, take}
use Rattle.day.specs.Sums.{at, sum_grows}
use Rattle.day.specs.Lent.{lent_day}
use Rattle.day.specs.File.{limit_of, record_of}
use Rattle.dayfile.specs.Theorems.{record_bytes}
use Rattle.dayfile_writer.proofs.Stores.{record_part, record_stored, stored_behind}
use Rattle.dayfile_writer.proofs.put_periods.Goals as goal

pub slice_bounds-copy-start : goal.slice_bounds-copy-start
slice_bounds-copy-start c =
    let store = c.args.day.store.now in
    let grows = sum_grows (λ j. 17 + length (limit_of (at store j))) (suc c.loop-k.k) (length c.args.day.demand.now) (omega arith) in
    omega (arith, grows, c.loop-k.invariant, c.requires.room, c.loop-k.auto.out)

pub slice_bounds-copy-count : goal.slice_bounds-copy-count
slice_bounds-copy-count c =
    let store = c.args.day.store.now in
    let grows = sum_grows (λ j. 17 + length (limit_of (at store j))) (suc c.loop-k.k) (length c.args.day.demand.now) (omega arith) in
    omega (arith, grows, c.loop-k.invariant, c.requires.room, c.loop-k.auto.out)

pub copy-requires : goal.copy-requires
copy-requires c =
    let store = c.args.day.store.now in
    let k = c.loop-k.k in
    let grows = sum_grows (λ j. 17 + length (limit_of (at store j))) (suc k) (length c.args.day.demand.now) (omega arith) in
    let part = record_part (lent_day c.args.day) k c.entries-p.ensures c.record_size-size.ensures.is c.period_record-record.ensures in
    rw part (omega (arith, grows, c.loop-k.invariant, c.requires.room))

pub overflow_add-at : goal.overflow_add-at
overflow_add-at c =
    let store = c.args.day.store.now in
    let grows = sum_grows (λ j. 17 + length (limit_of (at store j))) (suc c.loop-k.k) (length c.args.day.demand.now) (omega arith) in
    let size = rw c.entries-p.ensures at c.record_size-size.ensures.is in
    omega (arith, grows, c.loop-k.invariant, c.requires.room, size)

pub loop-k-preserved : goal.loop-k-preserved
loop-k-preserved c =
    let d = lent_day c.args.day in
    let k = c.loop-k.k in
    let w = c.loop-k.invariant in
    let size = rw c.entries-p.ensures at c.record_size-size.ensures.is in
    let part = record_part d k c.entries-p.ensures c.record_size-size.ensures.is c.period_record-record.ensures in
    let here : c.loop-k.at ≡ 0 + record_bytes (at d.store) k = omega (arith, w.0) in
    let grows = sum_grows (λ j. 17 + length (limit_of (at d.store j))) (suc k) (length d.demand) (omega arith) in
    let room : c.loop-k.at + length (record_of d k) ≤ length c.loop-k.out = omega (arith, grows, w.0, c.requires.room, c.loop-k.auto.out) in
    let stored = stored_behind c.loop-k.out (take c.record_size-size.result c.period_record-record.result) _ c.loop-k.at (rw part room) c.copy.ensures in (
      rw add-one (omega (arith, w.0, size)),
      rw add-one (record_stored d _ 0 k here w.1 part stored),
    )
