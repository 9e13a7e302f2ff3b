-- The slots from m on hold the end of the plan.
use Rattle.std.proofs.Common.{◌≤◌, length}
use Rattle.uncapped.proofs.ReadBack.{PlanEnds}
use Rattle.uncapped.proofs.slots.read_back.Given as goal

abbrev pub invariant-loop-m : goal.invariant-loop-m
invariant-loop-m l = (l.m ≤ length l.demand) × PlanEnds l.demand l.choices l.fn.slots l.m l.slots

abbrev pub decreases-loop-m : goal.decreases-loop-m
decreases-loop-m l = l.m
