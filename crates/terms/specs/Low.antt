-- Bounds on the terms of sum (1), from bounds on what they are made of.
-- Main statements: `paid_low`, `making_low`, `setup_low`. Assumes nothing.
use Rattle.std.specs.Prelude.{◌≡◌, refl, ℕ, zero, suc, ◌+◌, ◌*◌, ◌^◌, ◌≤◌, ◌<◌}
use Rattle.std.proofs.Common.{mul-le-mul, le_of_lt, arith}
use Rattle.day.specs.Plan.{making, setup_at}

-- a 32-bit rate times a 24-bit number
pub paid_low : (rate v : ℕ) → rate < 2 ^ 32 → v < 2 ^ 24 → rate * v ≤ 2 ^ 56
paid_low rate v r l = let m : rate * v ≤ (2 ^ 32) * (2 ^ 24) = mul-le-mul (le_of_lt r) (le_of_lt l) in omega arith

-- what making something costs
pub making_some : (b p x : ℕ) → (x ≡ 0 → ⊥) → b + p * x ≡ making b p x
making_some b p zero n = absurd (n refl)
making_some b p (suc x) n = refl

-- the cost of making, for setup cost, unit cost and amount up to b', p' and x'
pub making_low : (b p x : ℕ) {b' p' x' : ℕ} → b ≤ b' → p ≤ p' → x ≤ x' → making b p x ≤ b' + p' * x'
making_low b p zero hb hp hx = omega arith
making_low b p (suc x) hb hp hx = omega (arith, mul-le-mul hp hx)

pub setup_low : (x : ℕ) → setup_at x ≤ 1
setup_low zero = omega arith
setup_low (suc x) = omega arith
