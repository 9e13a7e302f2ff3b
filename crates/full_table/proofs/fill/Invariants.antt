-- The rows of the periods passed are filled, and the last of them is the row before.
use Rattle.theory.specs.Problem.{lent_problem}
use Rattle.full_table.proofs.Filling.{TableFilling}
use Rattle.full_table.proofs.fill.Given as goal

abbrev pub invariant-loop-i : goal.invariant-loop-i
invariant-loop-i l =
    TableFilling (lent_problem l.p.problem) l.p.ceilings.now l.total l.before l.after l.choices l.low l.high l.i
