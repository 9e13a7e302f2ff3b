-- What `big` asks of its keys.
use Rattle.big.proofs.Entry.{keys_ask}
use Rattle.earlier_calls.proofs.best.make_trials.Goals as goal

pub keys-requires : goal.keys-requires
keys-requires c = keys_ask c.requires c.problem-p.ensures
