-- The digits of a number. Main definitions: `last_digits`, `IsDigitCount`. Assumes nothing.
use Rattle.std.specs.Prelude.{List, [], ◌∷◌, ◌++◌, ℕ, zero, suc, ◌+◌, ◌-◌, ◌/◌, ◌%◌, ◌^◌, ◌<◌, ◌≤◌}

-- the last k digits of n in base b, of ten at most, as ASCII; the most significant first
abbrev pub last_digits : (b k n : ℕ) → List ℕ
last_digits b zero n = []
last_digits b (suc k) n = last_digits b k (n / b) ++ ((48 + n % b) ∷ [])

-- n takes k digits in base b, and no number takes none
abbrev pub IsDigitCount : (b n k : ℕ) → Type 0
IsDigitCount b n k = (1 ≤ k) × (n < b ^ k) × (1 < k → b ^ (k - 1) ≤ n)
