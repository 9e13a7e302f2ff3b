-- The first index at which a function is least.
-- Assumes nothing.
use Rattle.std.specs.Prelude.{◌≡◌, refl, ℕ, zero, suc, ◌≤◌, ◌<◌}
use Rattle.std.proofs.Common.{le_of_suc-le-suc, arith}
use Rattle.std.proofs.Math.Decide.{dec_lt}
use Rattle.theory.specs.Basics.{pick, up_to, up_to-zero}

-- the first of those of 0 .. m at which f is smallest
abbrev pub cheapest : (ℕ → ℕ) → ℕ → ℕ
cheapest f zero = 0
cheapest f (suc m) = pick (dec_lt (f (suc m)) (f (cheapest f m))) (suc m) (cheapest f m)

-- l is the first at which f is least up to m, for code that finds it in its own way
pub record Cheapest (f : ℕ → ℕ) (m l : ℕ) : Type 0 where
  pub inside : l ≤ m
  pub least : (j : ℕ) → j ≤ m → f l ≤ f j
  pub first : (j : ℕ) → j < l → f l < f j

pub cheapest_right : (f : ℕ → ℕ) (m : ℕ) → Cheapest f m (cheapest f m)
cheapest_right f zero = record { inside = omega arith; least = up_to-zero (λ (j : ℕ). f 0 ≤ f j) (omega arith); first = λ j h. absurd (omega arith) }
cheapest_right f (suc m) = go (cheapest f m) (cheapest_right f m) (dec_lt (f (suc m)) (f (cheapest f m)))
  where
    go : (l : ℕ) → Cheapest f m l → (d : Dec (f (suc m) < f l)) → Cheapest f (suc m) (pick d (suc m) l)
    go l c (yes h) =
        record {
          inside = omega arith;
          least = up_to (λ (j : ℕ). f (suc m) ≤ f j) m (λ j g. omega (arith, c.least j g)) (omega arith);
          first = λ j g. omega (arith, c.least j (le_of_suc-le-suc g));
        }
    go l c (no h) =
        record {
          inside = omega (arith, c.inside);
          least = up_to (λ (j : ℕ). f l ≤ f j) m c.least (omega arith);
          first = c.first;
        }

-- there is one such
pub cheapest_unique : (f : ℕ → ℕ) (m l l' : ℕ) → Cheapest f m l → Cheapest f m l' → l ≡ l'
cheapest_unique f m l l' a b = go (dec_lt l l') (dec_lt l' l)
  where
    go : Dec (l < l') → Dec (l' < l) → l ≡ l'
    go (yes h) d = absurd (omega (arith, b.first l h, a.least l' b.inside))
    go (no h) (yes g) = absurd (omega (arith, a.first l' g, b.least l a.inside))
    go (no h) (no g) = omega arith

-- it looks at f up to m alone
pub cheapest_ext : (f g : ℕ → ℕ) (m : ℕ) → ((j : ℕ) → j ≤ m → f j ≡ g j) → cheapest f m ≡ cheapest g m
cheapest_ext f g zero e = refl
cheapest_ext f g (suc m) e = same (cheapest f m) (cheapest g m) (cheapest_right f m).inside (cheapest_ext f g m (λ j h. e j (omega arith)))
  where
    same : (a b : ℕ) → a ≤ m → a ≡ b → pick (dec_lt (f (suc m)) (f a)) (suc m) a ≡ pick (dec_lt (g (suc m)) (g b)) (suc m) b
    same a b h q = let s = e (suc m) (omega arith) in let t = e a (omega arith) in rw (← q, s, t) refl
