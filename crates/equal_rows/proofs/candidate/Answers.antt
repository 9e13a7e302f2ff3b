-- Once row l is copied, the slots after it are as many as the interval has periods.
use Rattle.std.proofs.Common.{length, arith}
use Rattle.std.proofs.lemmas.Grind.{common_steps}
use Rattle.equal_rows.specs.Consider.{need_low}
use Rattle.equal_rows.specs.Constant.{constant_problem}
use Rattle.equal_rows.proofs.candidate.Goals as goal

pub trial-run-requires : goal.trial-run-requires
trial-run-requires c =
    let a = c.args in
    let p = constant_problem a.p in
    record {
      inside = grind (arith, common_steps);
      low = omega (arith, c.requires.rest, need_low p a.p.full c.args.p.constant (length a.slots.now) c.requires.inside);
      sized = c.requires.sized;
    }
