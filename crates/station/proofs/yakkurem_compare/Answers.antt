-- What is shown is the comparison's answer on the day of the lent tables.
use Rattle.std.proofs.Common.{subst}
use Rattle.day.specs.Day.{Day}
use Rattle.weigher.specs.Answers.{Compares}
use Rattle.station.proofs.yakkurem_compare.Goals as goal

pub returns : goal.returns
returns c = record {
  answer = c.compare.result;
  given = subst (λ (d : Day). Compares d c.args.first.now c.args.second.now c.compare.result) c.new-day.ensures c.compare.ensures;
  shown = c.shown.ensures;
}
