-- The head's amount is recursion (5)'s, unless making nothing is as cheap.
use Rattle.std.proofs.Common.{rules, ◌∙◌}
use Rattle.full_rows.specs.Head.{best_none, best_head}
use Rattle.full_rows.proofs.Queueing.{best_of_lem, entries_part, part_none, part_first}
use Rattle.full_rows.proofs.queue.Candidates.best.Goals as goal

pub returns-in_default : goal.returns-in_default
returns-in_default c =
    let r = c.requires in
    let none = part_none (entries_part c.args.self.now c.entries.ensures) (search rules) in
    c.choice.ensures ∙ best_none c.args.row.now.opened.bounded r.after r.window.queue none

pub returns-then-row-total : goal.returns-then-row-total
returns-then-row-total c =
    let r = c.requires in
    let some = part_first (entries_part c.args.self.now c.entries.ensures) c.from.result (search rules) (search rules) in
    let h = some.1 in
    c.choice-some.ensures ∙ rw h (best_head c.args.row.now.opened.bounded r.after r.window some.0 c.if-row-total.true)

pub returns : goal.returns
returns c =
    let r = c.requires in
    let some = part_first (entries_part c.args.self.now c.entries.ensures) c.from.result (search rules) (search rules) in
    let h = some.1 in
    best_of_lem c.args.row.now.opened.bounded r.after r.window some.0 c.if-row-total.false c.choice-2.ensures
    (rw h at c.choice-some.ensures) c.cheaper.ensures
