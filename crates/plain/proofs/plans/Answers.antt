-- At most 11 to the power 4.
use Rattle.std.proofs.Common.{◌≤◌, arith}
use Rattle.std.proofs.Math.Nat.{pow-le-pow_right}
use Rattle.plain.proofs.plans.Goals as goal

pub pow-requires : goal.pow-requires
pow-requires c =
    let few : c.args.n ≤ 4 = omega arith in
    omega (arith, pow-le-pow_right {n = 11} (omega arith) few)
