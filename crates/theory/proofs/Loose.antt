-- When a path's tests leave a day whose stores can't bind: `passed_loose`, `limits_loose`. Assumes nothing.
use Rattle.std.proofs.Common.{arith}
use Rattle.std.specs.Prelude.{◌≡◌, [], ◌∷◌, ℕ, Option, None}
use Rattle.day.specs.declared.Refusal.{Refusal}
use Rattle.day.specs.Day.{Day}
use Rattle.day.specs.Refusals.{first, low_store}
use Rattle.day.specs.Tests.{first_two}
use Rattle.checks.specs.Passed.{DayLimits, store_passed}
use Rattle.theory.specs.Net.{limits_fit}
use Rattle.theory.specs.Store.{Loose}

pub passed_loose : {limit : ℕ} {d : Day} → DayLimits limit d → low_store d ≡ None → Loose d
passed_loose {d} g e = record { fits = limits_fit g; takes = λ k l. omega (arith, store_passed d e k l) }

-- of a path whose last test is 16, after one of its own
pub limits_loose : {limit : ℕ} {d : Day} (own : Option Refusal) → DayLimits limit d → first (own ∷ low_store d ∷ []) ≡ None → Loose d
limits_loose {d} own g e = passed_loose g (first_two own (low_store d) e).1
