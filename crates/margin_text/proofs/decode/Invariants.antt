-- The needs so far are those of the bytes before the rest of the file.
use Rattle.std.proofs.Common.{◌≡◌, ◌*◌, ◌≤◌, length, drop}
use Rattle.day.specs.File.{number2}
use Rattle.margin_text.specs.Laws.{Listed}
use Rattle.margin_text.proofs.decode.Given as goal

abbrev pub invariant-loop-pair : goal.invariant-loop-pair
invariant-loop-pair l = record {
  can : (goal.iterator-loop-pair).can_next l.pair-iterator;
  finite : (goal.iterator-loop-pair).is_finite l.pair-iterator;
  size : l.pair-iterator.size ≡ 2;
  rest : l.pair-iterator.rest.now ≡ drop (2 * length l.needs.items) l.file;
  within : 2 * length l.needs.items ≤ length l.file;
  listed : Listed (λ k. number2 l.file (2 * k)) (length l.needs.items) l.needs.items;
}
