-- What a C program sees of a call's answer: one code, and the call's out-array (include/yakkurem.h).
-- Main definitions: `code_of`; `seen_of`, what is seen of an answer's figures; `check_code`, of a call without an out-array. And the other way `expected_of`,
-- the stamp that a C program expects.
-- Main statement: `code_splits` takes a code apart. Assumes nothing.
use Rattle.std.specs.Prelude.{◌≡◌, cond, List, ℕ, ◌+◌, ◌*◌, ◌/◌, ◌%◌, ◌<◌, eqb, length, Option, None, Some, Result, Ok, Err}
use Rattle.std.proofs.Common.{◌∙◌, mod-eq_of_lt, zero-add, arith}
use Rattle.std.proofs.Math.Nat.{add-mul-mod_self_left, add-mul-div_left, div-eq_of_lt}
use Rattle.day.specs.declared.Refusal.{Refusal}
use Rattle.day.specs.declared.Stamp.{Stamp}
use Rattle.day.specs.Sums.{at}
use Rattle.day.specs.File.{stamp_with}
use Rattle.day.specs.Refusals.{number_of, period_of}
use Rattle.day.specs.Figures.{Figures}

-- the code of a number and a period; 0 is the code of an accepted call, which has neither
abbrev pub code_of : (number period : ℕ) → ℕ
code_of number period = number + 256 * period

-- a code gives back its number and its period; every refusal's and rule's number is below 256
pub code_splits : (number period : ℕ) → number < 256 → (code_of number period % 256 ≡ number) × (code_of number period / 256 ≡ period)
code_splits number period low = (
  add-mul-mod_self_left number 256 period ∙ mod-eq_of_lt low,
  add-mul-div_left number period (omega arith) ∙ rw (div-eq_of_lt low) (zero-add period),
)

-- a call's code, and what its out-array holds after it
pub record Seen (A : Type 0) : Type 0 where
  pub code : ℕ
  pub out : List A

abbrev pub seen : {A : Type 0} → ℕ → List A → Seen A
seen code out = record { code = code; out = out }

-- what is seen of an answer's figures: an accepted call writes its out-array, any other leaves it as it was
abbrev pub out_of : {A : Type 0} → List A → Option (List A) → List A
out_of before None = before
out_of before (Some values) = values

abbrev pub seen_of : {A : Type 0} → List A → Figures A → Seen A
seen_of before f = seen (code_of f.number f.period) (out_of before f.values)

-- where there is no out-array: the code of what the call's tests say
abbrev pub check_code : Result Unit Refusal → ℕ
check_code (Ok _) = code_of 0 0
check_code (Err r) = code_of (number_of r) (period_of r)

-- the expected stamp, where two numbers say it: station and date; none where they are fewer or more
abbrev pub expected_of : List ℕ → Option Stamp
expected_of numbers = cond (eqb (length numbers) 2) (Some (stamp_with (at numbers 0) (at numbers 1))) None
