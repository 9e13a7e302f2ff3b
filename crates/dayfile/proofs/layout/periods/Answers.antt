-- A turn passes one more whole period; where no whole period stands, as many as the file has are passed.
use Rattle.std.proofs.Common.{sym, ◌∙◌, add-one}
use Rattle.dayfile.specs.Layout.{walked_more, walked_end}
use Rattle.dayfile.proofs.layout.periods.Goals as goal

pub loop-at-preserved : goal.loop-at-preserved
loop-at-preserved c =
    rw (add-one, c.next-at.ensures) (walked_more _ _ _ c.loop-at.invariant (sym c.is_period.ensures ∙ c.loop-at-test.true))

pub returns : goal.returns
returns c = sym (walked_end _ _ _ c.loop-at.invariant (sym c.is_period.ensures ∙ c.loop-at-test.false))
