-- The first of the candidates before l is told in row m.
use Rattle.equal_rows.specs.Rows.{areas}
use Rattle.equal_rows.specs.Constant.{constant_problem}
use Rattle.equal_rows.proofs.Trying.{Trying}
use Rattle.equal_rows.proofs.row.Given as goal

abbrev pub invariant-loop-l : goal.invariant-loop-l
invariant-loop-l l =
    Trying (constant_problem l.p) l.p.full l.m (areas l.initial.costs l.initial.choices) (areas l.costs l.choices)
    l.left l.l
