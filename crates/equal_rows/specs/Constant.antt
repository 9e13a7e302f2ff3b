-- The problem that the rows run on. Assumes nothing.
use Rattle.theory.specs.Problem.{Problem}
use Rattle.equal_runs.specs.Run.{lent_constant}
use Rattle.equal_rows.specs.declared.constant.ConstantProblem.{ConstantProblem}

-- its one capacity throughout
abbrev pub constant_problem : ConstantProblem → Problem
constant_problem l = lent_constant l.problem l.full
