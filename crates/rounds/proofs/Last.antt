-- The last allowed period, as a search from the back finds it. Main statement: `last_is`. Assumes nothing.
use Rattle.std.proofs.Common.{◌≡◌, refl, ◌∙◌, Option, Some, None, ℕ, zero, suc, ◌<◌, ◌≢◌, arith}
use Rattle.std.specs.Prelude.{MatchOption}
use Rattle.std.proofs.Math.Decide.{dec_lt}
use Rattle.day.specs.Drops.{last_open}
use Rattle.rounds.specs.Turns.{open_below}

-- all of the first m are forbidden, or all of them after an allowed one
abbrev pub LastOpen : (marks : ℕ → ℕ) (m : ℕ) → Option ℕ → Type 0
LastOpen marks m r =
    MatchOption r ((k : ℕ) → k < m → marks k ≢ 0) (λ i. (i < m) × (marks i ≡ 0) × ((k : ℕ) → i < k → k < m → marks k ≢ 0))

-- such a period is the last of the first i + 1, and of as many more as there are
above : (marks : ℕ → ℕ) (i m : ℕ) → i < m → marks i ≡ 0 → ((k : ℕ) → i < k → k < m → marks k ≢ 0) → Some i ≡ last_open marks m
above marks i zero l z none = absurd (omega arith)
above marks i (suc m) l z none = go (dec_lt i m) (λ h. above marks i m h z (λ k a b. none k a (omega arith)))
  where
    go : Dec (i < m) → (i < m → Some i ≡ last_open marks m) → Some i ≡ last_open marks (suc m)
    go (yes h) below = below h ∙ open_below marks (suc m) m refl (grind (arith, none m h (omega arith)))
    go (no h) below = let e : m ≡ i = omega arith in rw (e, z) refl

pub last_is : (marks : ℕ → ℕ) (m : ℕ) (r : Option ℕ) → LastOpen marks m r → r ≡ last_open marks m
last_is marks zero None none = refl
last_is marks (suc m) None none =
    last_is marks m None (λ k l. none k (omega arith)) ∙ open_below marks (suc m) m refl (grind (arith, none m (omega arith)))
last_is marks m (Some i) (l, z, none) = above marks i m l z none
