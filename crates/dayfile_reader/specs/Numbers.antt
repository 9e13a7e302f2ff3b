-- What the field decoder gives: a period's numbers at their places in the body. Assumes nothing.
use Rattle.std.specs.Prelude.{List, ℕ}
use Rattle.day.specs.File.{number2, number4, limit_in}
use Rattle.day.specs.declared.Entries.{Entries}

abbrev pub numbers_in : ℕ → List ℕ → Entries
numbers_in kind b = record {
  demand = number2 b 0;
  capacity = number2 b 2;
  setup = number4 b 4;
  unit = number4 b 8;
  holding = number4 b 12;
  store = limit_in kind b;
}
