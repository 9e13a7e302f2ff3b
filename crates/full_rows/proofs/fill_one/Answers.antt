-- The best choice is small enough for what is written.
use Rattle.std.proofs.Common.{rules}
use Rattle.full_rows.proofs.Laws.{best_small}
use Rattle.full_rows.proofs.fill_one.Goals as goal

pub cell-cell-requires : goal.cell-cell-requires
cell-cell-requires c = best_small c.args.row.now.opened (search rules) c.best.ensures
