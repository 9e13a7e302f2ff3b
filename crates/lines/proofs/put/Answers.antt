-- What is printed of a number is the number in decimal.
use Rattle.std.proofs.Common.{arith, append_assoc}
use Rattle.lines.specs.Laws.{decimal_is}
use Rattle.lines.proofs.put.Goals as goal

pub returns-clause-said : goal.returns-clause-said
returns-clause-said g c =
    rw (c.push_str-2.ensures.bytes, c.push_str.ensures.bytes, c.format.ensures.text, decimal_is c.args.n (omega arith), append_assoc)
