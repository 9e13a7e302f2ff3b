-- What the difference of two plans' costs says at zero, above it and below it.
-- Main statement: `difference_right`. Assumes nothing.
use Rattle.std.specs.Prelude.{◌≡◌, refl, Bool, true, false, cond, ℕ, zero, suc, ◌+◌, ◌-◌, ltb, ℤ, pos, negsuc, ◌-ℤ◌}
use Rattle.std.proofs.Common.{arith, ltb-true, ltb-false}

-- what a difference says of two costs: equal; the first dearer, or cheaper, by so much
abbrev pub Apart : (a b : ℕ) → ℤ → Type 0
Apart a b (pos zero) = a ≡ b
Apart a b (pos (suc k)) = a ≡ b + suc k
Apart a b (negsuc k) = b ≡ a + suc k

not_below : (a b k : ℕ) → a ≡ b + k → Apart a b (pos k)
not_below a b zero e = omega arith
not_below a b (suc k) e = e

pub difference_right : (a b : ℕ) → Apart a b (pos a -ℤ pos b)
difference_right a zero = not_below a 0 (a + 0) (omega arith)
difference_right a (suc b) = go (ltb a (suc b)) refl
  where
    go : (t : Bool) → ltb a (suc b) ≡ t → Apart a (suc b) (cond t (negsuc (suc b - suc a)) (pos (a - suc b)))
    go true e = let l = ltb-true a (suc b) e in omega arith
    go false e = let l = ltb-false a (suc b) e in not_below a (suc b) (a - suc b) (omega arith)
