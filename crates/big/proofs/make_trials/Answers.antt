-- The day is made ready; trial 1's plan is that of the day with all starts free.
use Rattle.big.proofs.Entry.{keys_ask, trials_give}
use Rattle.big.proofs.make_trials.Goals as goal

pub keys-requires : goal.keys-requires
keys-requires c = keys_ask c.requires c.problem-p.ensures

pub returns : goal.returns
returns c = trials_give c.requires _ _ _ _ _ c.begin_in_cells-cost.ensures _ _ _ c.run_in_cells.ensures
