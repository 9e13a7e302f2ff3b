-- What stands, and what the words that are left will add, are the line; and they are within its room.
use Rattle.std.proofs.Common.{◌≡◌, ◌++◌, ◌+◌, ◌≤◌, length, drop}
use Rattle.lines.specs.Text.{line_of, labels, line_room}
use Rattle.lines.proofs.line.Given as goal

abbrev pub invariant-loop-word : goal.invariant-loop-word
invariant-loop-word g l = record {
  said : l.text.bytes ++ line_of (labels (drop l.word-index l.parts)) ≡ line_of (labels l.parts);
  room : length l.text.bytes + line_room (labels (drop l.word-index l.parts)) ≤ line_room (labels l.parts);
}
