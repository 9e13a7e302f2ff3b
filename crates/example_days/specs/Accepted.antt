-- A file that was written is within the room for it. Assumes nothing.
use Rattle.std.specs.Prelude.{◌≡◌, List, ℕ, ◌≤◌, length, Result, Ok}
use Rattle.std.proofs.Common.{subst, arith}
use Rattle.day.specs.declared.Refusal.{Refusal}
use Rattle.day.specs.declared.Stamp.{Stamp}
use Rattle.day.specs.Day.{Day}
use Rattle.day.specs.Figures.{first_value}
use Rattle.dayfile.specs.Answers.{Writing}
use Rattle.dayfile.specs.Passed.{write_passed}

pub written_fits : (t : Stamp) (d : Day) (before after : List ℕ) (answer : Result ℕ Refusal) (n : ℕ) → answer ≡ Ok n → Writing t d before answer after
    → n ≤ length before
written_fits t d before after answer n e w =
    let q = subst (λ (a : Result ℕ Refusal). Writing t d before a after) e w in
    omega (arith, write_passed t d (length before) q.0, first_value q.1)
