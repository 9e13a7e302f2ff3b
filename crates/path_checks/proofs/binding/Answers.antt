-- A capacity that is below what remains is the first that binds.
use Rattle.std.proofs.Common.{◌-◌, arith}
use borrow.Author.Tests.{lt-ltb}
use Rattle.day.specs.declared.Refusal.TheVariants.{BindingCapacity}
use Rattle.day.specs.Sums.{at}
use Rattle.day.specs.Lent.{lent_day}
use Rattle.day.specs.Day.{total, demand_to}
use Rattle.checks.specs.Search.{refused_here}
use Rattle.path_checks.proofs.binding.Goals as goal

pub returns-then-from-remaining : goal.returns-then-from-remaining
returns-then-from-remaining c =
    let d = lent_day c.args.day in
    let i = c.loop-i.i in
    let below = lt-ltb (at d.capacity i) (total d - (demand_to d i - d.opening)) (omega arith) in
    refused_here c.loop-i.invariant.0 BindingCapacity below (omega arith)
