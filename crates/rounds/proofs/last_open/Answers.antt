-- From the back, the first mark that is 0.
use Rattle.std.proofs.Common.{arith, length}
use Rattle.std.proofs.lemmas.Grind.{elements}
use Rattle.day.specs.Sums.{at}
use Rattle.rounds.proofs.Last.{last_is}
use Rattle.rounds.proofs.last_open.Goals as goal

pub returns : goal.returns
returns c = last_is (at c.args.marks.now) (length c.args.marks.now) _ (grind (arith, elements))
