-- The period records follow the head, and the end record follows them.
use Rattle.std.proofs.Math.Seq.{length-sets}
use borrow.Rule.Slice.PartMut.{put_mid}
use Rattle.std.proofs.Common.{◌+◌, ◌-◌, ◌≤◌, ap, arith, length}
use Rattle.day.specs.Day.{periods}
use Rattle.day.specs.Lent.{lent_day}
use Rattle.day.specs.File.{records_of}
use Rattle.dayfile_writer.specs.RoundTrip.{file_length, records_length}
use Rattle.dayfile_writer.proofs.Stores.{file_stored, stored_behind}
use Rattle.dayfile_writer.proofs.put_file.Goals as goal

pub overflow_add-end : goal.overflow_add-end
overflow_add-end c =
    let size = file_length c.args.stamp (lent_day c.args.day) in
    omega (arith, c.requires.room, size, c.head_size-first.ensures.is, c.put_head.auto.out, c.put_periods.ensures.end)

pub slice_bounds-copy-start : goal.slice_bounds-copy-start
slice_bounds-copy-start c =
    let size = file_length c.args.stamp (lent_day c.args.day) in
    omega (arith, c.requires.room, size, c.head_size-first.ensures.is, c.put_head.auto.out, c.put_periods.auto.out, c.put_periods.ensures.end)

pub slice_bounds-copy-count : goal.slice_bounds-copy-count
slice_bounds-copy-count c =
    let size = file_length c.args.stamp (lent_day c.args.day) in
    omega (arith, c.requires.room, size, c.head_size-first.ensures.is, c.put_head.auto.out, c.put_periods.auto.out, c.put_periods.ensures.end)

pub put_periods-requires-clause-room : goal.put_periods-requires-clause-room
put_periods-requires-clause-room c =
    omega (arith, c.requires.room, file_length c.args.stamp (lent_day c.args.day), c.head_size-first.ensures.is, c.put_head.auto.out)

pub copy-requires : goal.copy-requires
copy-requires c =
    let end = ap length c.end_record-record.ensures in
    omega (
      arith,
      c.requires.room,
      file_length c.args.stamp (lent_day c.args.day),
      c.head_size-first.ensures.is,
      c.put_head.auto.out,
      c.put_periods.auto.out,
      c.put_periods.ensures.end,
      end,
    )

pub returns : goal.returns
returns c =
    let d = lent_day c.args.day in
    let first = c.head_size-first.result in
    let head = c.put_head.new.out in
    let records = records_of d (periods d) in
    let put = put_mid first (length head - first) head c.put_periods.new.out in
    let end = ap length c.end_record-record.ensures in
    let size = file_length c.args.stamp d in
    let some : first + length records ≤ length head =
    omega (arith, c.requires.room, size, c.head_size-first.ensures.is, c.put_head.auto.out, records_length d (periods d)) in
    let mid = stored_behind head records _ first some c.put_periods.ensures.written in
    let enough : first + c.put_periods.result + length c.end_record-record.result ≤ length put =
    rw mid (
    omega (arith, c.requires.room, size, c.head_size-first.ensures.is, c.put_head.auto.out, c.put_periods.ensures.end, end, length-sets head first records)
    ) in
    let after = stored_behind put c.end_record-record.result _ (first + c.put_periods.result) enough c.copy.ensures in
    file_stored c.args.stamp d c.args.out.now _ _ _ c.requires.room (omega (arith, c.head_size-first.ensures.is)) c.put_head.ensures
    (omega (arith, c.put_periods.ensures.end)) mid (rw c.periods.ensures at c.end_record-record.ensures) after
