-- A lot makes what its periods demand, and nothing after it.
use Rattle.std.proofs.Common.{rules}
use Rattle.uncapped.proofs.ReadBack.{part_small, lot_put}
use Rattle.uncapped.proofs.slots.put_lot.Goals as goal

pub sum-requires-clause-fits : goal.sum-requires-clause-fits
sum-requires-clause-fits c =
    let few = part_small _ _ _ _ c.requires in
    search rules

pub returns : goal.returns
returns c = lot_put _ _ _ _ c.requires _ _ (search rules) (search rules)
