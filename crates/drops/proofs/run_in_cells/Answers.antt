-- What the search for the next period asks, and what it finds; the trials used up.
use Rattle.std.proofs.Common.{arith}
use Rattle.drops.proofs.Running.{running_search, running_comes, running_stops, running_out}
use Rattle.drops.proofs.run_in_cells.Goals as goal

pub next-requires : goal.next-requires
next-requires c = running_search c.args.ready.ready c.loop-used.invariant

pub step-s-requires-clause-next_is : goal.step-s-requires-clause-next_is
step-s-requires-clause-next_is c = running_comes c.args.ready.ready c.loop-used.invariant c.in-Some.turn (c.in-Some.ensures c.loop-used.best)

pub returns-in_default : goal.returns-in_default
returns-in_default c = running_stops c.args.ready.ready c.loop-used.invariant (c.in_default.ensures c.loop-used.best)

pub returns : goal.returns
returns c = running_out c.args.ready.ready c.loop-used.invariant (omega arith)
