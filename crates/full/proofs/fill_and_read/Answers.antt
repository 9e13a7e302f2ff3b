-- The table, filled, can be read back; what is read is the plan.
use Rattle.full.proofs.Fronts.{traceable, planned}
use Rattle.full.proofs.fill_and_read.Goals as goal

pub read_back-requires : goal.read_back-requires
read_back-requires c = traceable c.requires c.fill.ensures c.args.p.bounded c.fill.auto.choices

pub returns : goal.returns
returns c = planned c.requires c.fill.ensures c.read_back.ensures
