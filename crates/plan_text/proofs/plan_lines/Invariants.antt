-- After i turns the lines of the first i periods stand behind the plan's, and no line is longer than its room.
use Rattle.std.proofs.Common.{◌≡◌, ◌++◌, ◌+◌, ◌*◌, ◌≤◌, length}
use Rattle.day.specs.Sums.{at}
use Rattle.day.specs.Day.{periods}
use Rattle.day.specs.Lent.{lent_day}
use Rattle.lines.specs.Text.{line_bytes, plan_line}
use Rattle.plan_text.specs.Text.{amount_lines}
use Rattle.plan_text.proofs.plan_lines.Given as goal

abbrev pub invariant-loop-i : goal.invariant-loop-i
invariant-loop-i l =
    let d = lent_day l.day in
    record {
      said : l.text.bytes ≡ plan_line (periods d) l.fn.totals.cost l.fn.totals.setups ++ amount_lines d (at l.plan) l.i;
      few : length l.text.bytes ≤ line_bytes * (l.i + 1);
    }
