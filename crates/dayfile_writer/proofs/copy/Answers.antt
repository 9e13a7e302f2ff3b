-- The bytes stand at the front, and what stood behind them stays.
use Rattle.std.proofs.Common.{refl}
use Rattle.dayfile_writer.proofs.Stores.{sets_front}
use Rattle.dayfile_writer.proofs.copy.Goals as goal

pub returns : goal.returns
returns c = rw (c.copy_from_slice.ensures.after, sets_front _ _ c.requires) refl
