-- What is shown is the weigher's answer on the day of the lent tables.
use Rattle.std.proofs.Common.{subst}
use Rattle.day.specs.Day.{Day}
use Rattle.weigher.specs.Answers.{Weighs}
use Rattle.station.proofs.yakkurem_weigh.Goals as goal

pub returns : goal.returns
returns c = record {
  answer = c.weigh.result;
  given = subst (λ (d : Day). Weighs d c.args.plan.now c.weigh.result) c.new-day.ensures c.weigh.ensures;
  shown = c.shown.ensures;
}
