-- What is shown is the answer on the played day of the lent tables.
use Rattle.std.proofs.Common.{subst}
use Rattle.day.specs.Day.{Day}
use Rattle.play.specs.Answers.{Plays}
use Rattle.station.proofs.yakkurem_play.Goals as goal

pub returns : goal.returns
returns c = record {
  answer = c.play.result;
  given = subst (λ (d : Day). Plays c.args.actual.now d c.args.plan.now c.play.result) c.new-day.ensures c.play.ensures;
  shown = c.shown.ensures;
}
