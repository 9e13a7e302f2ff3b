-- What leaves at the head is no candidate; the best choice is small enough for what is written.
use Rattle.std.proofs.Common.{refl, ap, ◌∙◌, ◌+◌, arith}
use Rattle.day.specs.Sums.{at}
use Rattle.full_rows.specs.declared.Choice.{Choice}
use Rattle.full_rows.specs.Row.{cell_of}
use Rattle.full_rows.specs.Queue.{Window}
use Rattle.full_rows.specs.Moves.{queue_trim}
use Rattle.full_rows.proofs.Laws.{best_small}
use Rattle.full_rows.proofs.Queueing.{entries_part, trimmed_part}
use Rattle.full_rows.proofs.queue.Candidates.cell.Goals as goal
use Rattle.full_rows.proofs.queue.Candidates.cell.Goals.{After-below}

window : (c : After-below) → let q = c.args.self.now in
    Window c.args.row.now.stage (at c.args.row.now.costs.now) q.cells.now c.args.total (q.head + c.below.result) q.tail
window c =
    queue_trim c.requires.queue c.saturating_sub-least.ensures
    (trimmed_part (entries_part c.args.self.now c.entries.ensures) c.below.result c.below.ensures)

pub best-requires-clause-window : goal.best-requires-clause-window
best-requires-clause-window c = window (goal.at.best-requires-clause-window c).After-below

pub cell-requires : goal.cell-requires
cell-requires c = best_small c.args.row.now.opened c.requires.after c.best.ensures

pub returns : goal.returns
returns c =
    record {
      from = omega arith;
      queue = (window (goal.at.returns c).After-below).queue;
      same = (refl, refl);
      is = c.cell.ensures ∙ ap (λ (choice : Choice). cell_of c.args.row.now.stage choice c.args.total) c.best.ensures;
    }
