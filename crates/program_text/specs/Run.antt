-- A program's run: what it reads of its input, and what it writes. Main definition: `Writes`. Assumes nothing.
use Rattle.std.specs.Prelude.{List, ℕ, ◌<◌, length, Option}
use Rattle.std.specs.Io.KnownBytes.{Consumes, IsAtEnd, Appends}
use Rattle.program_text.specs.declared.Program.{Program}
use Rattle.program_text.specs.Text.{PrintedText}

-- the text of the input's first 1,838 bytes, or of all of them, and of some bytes for the files beside it is written behind what was there
pub record Writes (program : Program) (input left : Option (List ℕ)) (before after : Option (List ℕ)) : Type 0 where
  pub file : List ℕ
  pub needs : List ℕ
  pub id : List ℕ
  pub text : List ℕ
  pub read : Consumes input left file
  pub all : length file < 1838 → IsAtEnd left
  pub says : PrintedText program file needs id text
  pub put : Appends before after text
