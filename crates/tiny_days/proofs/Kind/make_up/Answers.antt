-- `tiny_days::Kind::make_up` meets its contract: the draws, one after the other.
use Rattle.std.proofs.Common.{arith}
use Rattle.tiny_days.specs.MadeUp.{made_up}
use Rattle.tiny_days.proofs.Kind.make_up.Goals as goal

pub returns : goal.returns
unfolding made_up
returns c =
    record {
      is = cc;
      few = omega arith;
      demand = omega arith;
      capacity = omega arith;
      setup = omega arith;
      unit = omega arith;
      holding = omega arith;
      store = omega arith;
    }
