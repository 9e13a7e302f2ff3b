-- The head of the queue is the choice of recursion (5), unless making nothing is as cheap.
-- Main statements: `best_none`, `best_head` and `best_either`, for an empty queue and one that is not. Assumes nothing.
use Rattle.std.specs.Prelude.{◌≡◌, refl, List, ℕ, zero, suc, ◌+◌, ◌-◌, ◌*◌, ◌≤◌, ◌<◌}
use Rattle.std.proofs.Common.{ap, ⊎_elim, eq-or-lt_of_le, le_of_lt, le_trans, lt_of_lt_of_le, mul-add, arith}
use Rattle.std.proofs.Math.Decide.{dec_lt}
use Rattle.day.specs.Sums.{at}
use Rattle.theory.specs.Basics.{pick}
use Rattle.theory.specs.Cheapest.{cheapest, cheapest_right, cheapest_unique}
use Rattle.theory.specs.Full.{lowest, highest, row_amount}
use Rattle.full_rows.specs.declared.Stage.{Stage}
use Rattle.full_rows.specs.Row.{stage_in, price_of, choice_of, best_of, StageBounded, After}
use Rattle.full_rows.specs.Queue.{key_of, Entry, Candidate, Queue, Window}

-- a is no dearer than b, and cheaper where P holds
abbrev pub Ahead : Type 0 → ℕ → ℕ → Type 0
Ahead P a b = (a ≤ b) × (P → a < b)

-- of the amounts that lead to X, v is the smallest of the cheapest
pub record First (s : Stage) (row : ℕ → ℕ) (X v : ℕ) : Type 0 where
  pub low : lowest (stage_in s) X ≤ v
  pub high : v ≤ highest (stage_in s) X
  pub ahead : (w : ℕ) → lowest (stage_in s) X ≤ w → w ≤ highest (stage_in s) X → Ahead (w < v) (price_of s row X v) (price_of s row X w)

-- so it is recursion (5)'s
pub first_best : (s : Stage) (row : ℕ → ℕ) (X v : ℕ) → First s row X v → choice_of s row X v ≡ best_of s row X
first_best s row X v f =
    let lo : ℕ = lowest (stage_in s) X in
    let cost : ℕ → ℕ = λ j. price_of s row X (lo + j) in
    let m : ℕ = highest (stage_in s) X - lo in
    let e : lo + (v - lo) ≡ v = omega (arith, f.low) in
    let p : cost (v - lo) ≡ price_of s row X v = ap (price_of s row X) e in
    let q = cheapest_unique cost m (v - lo) (cheapest cost m)
    (record {
      inside = omega (arith, f.low, f.high);
      least = λ j h. omega (arith, (f.ahead (lo + j) (omega arith) (omega (arith, f.low, f.high))).0);
      first = λ j h. omega (arith, (f.ahead (lo + j) (omega arith) (omega (arith, f.low, f.high))).1 (omega (arith, f.low)));
    })
    (cheapest_right cost m) in
    let r : v ≡ row_amount (stage_in s) row X = omega (arith, f.low) in
    ap (choice_of s row X) r

module _ (s : Stage) (row : ℕ → ℕ) (X : ℕ) (under : X ≤ s.top) where
  price_key : (Y : ℕ) → Y < X → price_of s row X (X - Y) + s.unit * (s.top - X) ≡ key_of s row Y + s.setup
  price_key Y l = go (X - Y) refl
    where
      go : (v : ℕ) → v ≡ X - Y → price_of s row X v + s.unit * (s.top - X) ≡ key_of s row Y + s.setup
      go zero e = absurd (omega arith)
      go (suc v) e =
          let y : X - suc v ≡ Y = omega arith in
          let d : s.top - Y ≡ suc v + (s.top - X) = omega arith in
          rw (y, d, mul-add) (omega arith)

  -- prices for one X compare as keys
  prices : {P : Type 0} (Y Z : ℕ) → Y < X → Z < X → Ahead P (key_of s row Y) (key_of s row Z)
      → Ahead P (price_of s row X (X - Y)) (price_of s row X (X - Z))
  prices {P} Y Z l m k = go _ _ (s.unit * (s.top - X)) s.setup _ _ (price_key Y l) (price_key Z m) k
    where
      go : (p q c d i j : ℕ) → p + c ≡ i + d → q + c ≡ j + d → Ahead P i j → Ahead P p q
      go p q c d i j e f h = (omega (arith, h.0), λ g. omega (arith, h.1 g))

-- the head is the cheapest candidate, of equals the last
head_first : {s : Stage} {row : ℕ → ℕ} {cells : List ℕ} {X head tail : ℕ} → Queue s row cells X head tail → (Y : ℕ) → Candidate s X Y
    → Ahead (at cells head < Y) (key_of s row (at cells head)) (key_of s row Y)
head_first {s} {row} {cells} {X} {head} q Y c =
    let w = q.substitutes Y c in
    ⊎_elim
    (λ (e : head ≡ w.place). rw e (w.cheap, λ l. absurd (omega (arith, w.later))))
    (λ h. let k = lt_of_lt_of_le (q.rising head w.place (omega arith) h w.to) w.cheap in (le_of_lt k, λ _. k))
    (eq-or-lt_of_le w.from)

-- what an amount of at least 1 leaves is a candidate
candidate : {s : Stage} {X : ℕ} → StageBounded s → After s X → (w : ℕ) → lowest (stage_in s) X ≤ suc w → suc w ≤ highest (stage_in s) X
    → Candidate s X (X - suc w)
candidate b after w i j =
    let l = b.rises in
    record { entry = record { low = omega (arith, after.0); high = omega arith; below = omega (arith, after.0) }; near = omega arith }

module _ {s : Stage} {row : ℕ → ℕ} {X : ℕ} (b : StageBounded s) (after : After s X) where
  -- where no candidate is cheaper, nothing is made
  none_first : X ≤ s.high → ((Y : ℕ) → Candidate s X Y → price_of s row X 0 ≤ price_of s row X (X - Y)) → First s row X 0
  none_first h c = record { low = omega arith; high = omega arith; ahead = ahead }
    where
      ahead : (w : ℕ) → lowest (stage_in s) X ≤ w → w ≤ highest (stage_in s) X → Ahead (w < 0) (price_of s row X 0) (price_of s row X w)
      ahead zero i j = (omega arith, λ l. absurd (omega arith))
      ahead (suc w) i j =
          let e : X - (X - suc w) ≡ suc w = omega arith in
          (rw e at (c (X - suc w) (candidate b after w i j)), λ l. absurd (omega arith))

  -- where that is dearer or does not lead to X, the head's amount is made
  head_amount : {cells : List ℕ} {head tail : ℕ} → Window s row cells X head tail → head < tail
      → (X ≤ s.high → price_of s row X (X - at cells head) < price_of s row X 0) → First s row X (X - at cells head)
  head_amount {cells} {head} w some dear =
      let n = w.near some in
      let i = w.queue.entries head (omega arith) some in
      record { low = omega (arith, i.high); high = omega (arith, i.low); ahead = ahead i.below }
    where
      ahead : at cells head < X → (v : ℕ) → lowest (stage_in s) X ≤ v → v ≤ highest (stage_in s) X
          → Ahead (v < X - at cells head) (price_of s row X (X - at cells head)) (price_of s row X v)
      ahead g zero i j = let d = dear (omega arith) in (le_of_lt d, λ _. d)
      ahead g (suc v) i j =
          let e : X - (X - suc v) ≡ suc v = omega arith in
          let first = head_first w.queue (X - suc v) (candidate b after v i j) in
          let k = prices s row X after.1 (at cells head) (X - suc v) g (omega arith) first in
          (rw e at k.0, λ l. rw e at (k.1 (omega arith)))

  -- an empty queue leaves one way to X: from X itself
  pub empty_reaches : {cells : List ℕ} {head tail : ℕ} → Queue s row cells X head tail → tail ≤ head → X ≤ s.high
  empty_reaches q e = go (dec_lt s.high X)
    where
      go : Dec (s.high < X) → X ≤ s.high
      go (no n) = omega arith
      go (yes y) =
          let entry : Entry s X s.high = record { low = b.some; high = omega arith; below = y } in
          let w = q.substitutes s.high (record { entry = entry; near = omega (arith, b.reached, after.1) }) in
          absurd (omega (arith, w.from, w.to))

  pub best_none : {cells : List ℕ} {head tail : ℕ} → Queue s row cells X head tail → tail ≤ head → choice_of s row X 0 ≡ best_of s row X
  best_none q e =
      first_best s row X 0
      (none_first (empty_reaches q e) (λ Y c. let w = q.substitutes Y c in absurd (omega (arith, w.from, w.to))))

  pub best_head : {cells : List ℕ} {head tail : ℕ} → Window s row cells X head tail → head < tail → s.high < X
      → choice_of s row X (X - at cells head) ≡ best_of s row X
  best_head {cells} {head} w some far = first_best s row X (X - at cells head) (head_amount w some (λ h. absurd (omega arith)))

  pub best_either : {cells : List ℕ} {head tail : ℕ} → Window s row cells X head tail → head < tail → X ≤ s.high
      → pick (dec_lt (price_of s row X (X - at cells head)) (price_of s row X 0)) (choice_of s row X (X - at cells head)) (choice_of s row X 0)
      ≡ best_of s row X
  best_either {cells} {head} w some near = go (dec_lt (price_of s row X (X - at cells head)) (price_of s row X 0))
    where
      not_lt : {m k : ℕ} → ¬ (m < k) → k ≤ m
      not_lt n = omega arith

      go : (d : Dec (price_of s row X (X - at cells head) < price_of s row X 0))
          → pick d (choice_of s row X (X - at cells head)) (choice_of s row X 0) ≡ best_of s row X
      go (yes y) = first_best s row X (X - at cells head) (head_amount w some (λ h. y))
      go (no n) =
          let i = w.queue.entries head (omega arith) some in
          let dear : (Y : ℕ) → Candidate s X Y → price_of s row X (X - at cells head) ≤ price_of s row X (X - Y) =
          (λ Y c. (prices s row X after.1 (at cells head) Y i.below c.entry.below (head_first w.queue Y c)).0) in
          first_best s row X 0 (none_first near (λ Y c. le_trans (not_lt n) (dear Y c)))
