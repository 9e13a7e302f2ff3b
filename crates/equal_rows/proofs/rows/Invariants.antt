-- The rows up to m are found.
use Rattle.equal_rows.specs.Rows.{areas}
use Rattle.equal_rows.specs.Constant.{constant_problem}
use Rattle.equal_rows.proofs.Done.{RowsDone}
use Rattle.equal_rows.proofs.rows.Given as goal

abbrev pub invariant-loop-m : goal.invariant-loop-m
invariant-loop-m l = RowsDone (constant_problem l.p) (areas l.costs l.choices) l.need l.m
