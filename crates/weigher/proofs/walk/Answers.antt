-- A period is judged from the sums of the walk; it stops the walk, or the walk goes on with the sums through it.
use Rattle.std.proofs.Common.{◌≡◌, refl, ◌∙◌, ◌+◌, Ok, Err, add-one, rules, arith}
use Rattle.day.specs.Sums.{at}
use Rattle.day.specs.Lent.{lent_day}
use Rattle.weigher.specs.Verdict.{breach}
use Rattle.weigher.specs.Walk.{Ruling}
use Rattle.weigher.specs.Running.{walk_of}
use Rattle.weigher.proofs.Walking.{walking_sums, walking_served, walking_more, walking_broken}
use Rattle.weigher.proofs.walk.Goals as goal

pub advance-requires : goal.advance-requires
advance-requires c =
    record {
      weighable = c.requires;
      inside = omega arith;
      opening = omega arith;
      sums = walking_sums c.loop-i.invariant;
      served = walking_served c.loop-i.invariant;
    }

pub returns-in_err-s : goal.returns-in_err-s
returns-in_err-s c = go c.advance.result refl
  where
    go : (o : Ruling) → c.advance.result ≡ o → c.from_residual.result ≡ walk_of (lent_day c.args.day) (at c.args.plan.now)
    go (Ok s) e = let t : c.map_err.result ≡ Ok s = search rules in search rules
    go (Err r) e =
        let t : c.from_residual.result ≡ Err (breach r (c.loop-i.i-counter + 1)) = search rules in
        t ∙ rw add-one (walking_broken c.loop-i.invariant (omega arith) c.advance.ensures e)

pub loop-i-preserved : goal.loop-i-preserved
loop-i-preserved c =
    let runs : c.advance.result ≡ Ok c.in_ok-s.s = search rules in
    rw add-one (walking_more c.loop-i.invariant (omega arith) c.advance.ensures runs)
