-- The first k records stand at the front.
use Rattle.std.proofs.Common.{◌≡◌}
use Rattle.std.proofs.lemmas.List.Edits.{sets}
use Rattle.day.specs.Sums.{at}
use Rattle.day.specs.Lent.{lent_day}
use Rattle.day.specs.File.{records_of}
use Rattle.dayfile.specs.Theorems.{record_bytes}
use Rattle.dayfile_writer.proofs.put_periods.Given as goal

abbrev pub invariant-loop-k : goal.invariant-loop-k
invariant-loop-k l =
    (l.at ≡ record_bytes (at l.day.store.now) l.k) × (l.out ≡ sets l.fn.out 0 (records_of (lent_day l.day) l.k))
