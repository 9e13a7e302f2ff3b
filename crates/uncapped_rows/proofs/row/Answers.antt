-- The last candidate is the row's where nothing is demanded; else what the whole search finds is.
use Rattle.uncapped_rows.proofs.Candidates.{last_chosen, searched_chosen}
use Rattle.uncapped_rows.proofs.row.Goals as goal

pub returns-then-made-eq0 : goal.returns-then-made-eq0
returns-then-made-eq0 c =
    let made = c.from-made.ensures in
    last_chosen c.requires (rw made at c.lot_cost.ensures.is) (rw made at c.if-made-eq0.true)

pub returns : goal.returns
returns c =
    let made = c.from-made.ensures in
    searched_chosen c.requires (rw made at c.lot_cost.ensures.is) (rw made at c.if-made-eq0.false) _ c.cheapest.ensures
