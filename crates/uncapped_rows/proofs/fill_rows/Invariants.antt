-- The areas hold the rows up to m.
use Rattle.uncapped_rows.specs.Bounds.{lent_uncapacitated}
use Rattle.uncapped_rows.proofs.Filling.{LotRowsTo}
use Rattle.uncapped_rows.proofs.fill_rows.Given as goal

abbrev pub invariant-loop-m : goal.invariant-loop-m
invariant-loop-m l =
    LotRowsTo (lent_uncapacitated l.p.problem) l.m l.initial.costs l.initial.choices l.costs l.choices
