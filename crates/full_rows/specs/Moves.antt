-- What the moves on the queue keep: entering at its back, leaving at its head, writing elsewhere.
-- Main statements: `queue_enter` and `queue_trim`. Assumes nothing.
use Rattle.std.specs.Prelude.{◌≡◌, refl, List, ℕ, ◌+◌, ◌-◌, ◌*◌, ◌≤◌, ◌<◌, min, length, set}
use Rattle.std.proofs.Common.{ap, le_trans, arith, get_or-set_same, get_or-set_other}
use Rattle.std.proofs.Math.Decide.{dec_lt}
use Rattle.day.specs.Sums.{at}
use Rattle.full_rows.specs.declared.Stage.{Stage}
use Rattle.full_rows.specs.Queue.{key_of, Entry, Candidate, Substitute, Queue, Window, Trimmed, Outdone}

pub entry_later : {s : Stage} {X Y : ℕ} (Z : ℕ) → X ≤ Z → Entry s X Y → Entry s Z Y
entry_later Z l e = record { low = e.low; high = e.high; below = omega (arith, e.below) }

module _ {s : Stage} {row : ℕ → ℕ} where
  pub queue_none : (cells : List ℕ) (start : ℕ) → Queue s row cells s.low start start
  queue_none cells start =
      record {
        ordered = omega arith;
        entries = λ i a b. absurd (omega arith);
        rising = λ i j a l b. absurd (omega arith);
        substitutes = λ Y c. absurd (omega (arith, c.entry.low, c.entry.below));
      }

  -- totals that cannot be reached before the stage need not enter
  pub queue_later : {cells : List ℕ} {X head tail : ℕ} (Z : ℕ) → X ≤ Z → min Z (s.high + 1) ≤ X → Queue s row cells X head tail
      → Queue s row cells Z head tail
  queue_later {cells} {X} Z l m q =
      record {
        ordered = q.ordered;
        entries = λ i a b. entry_later Z l (q.entries i a b);
        rising = q.rising;
        substitutes = λ Y c.
            let e = c.entry in
            let entry : Entry s X Y = record { low = e.low; high = e.high; below = omega (arith, e.high, e.below) } in
            q.substitutes Y (record { entry = entry; near = omega (arith, c.near) });
      }

  -- it reads the row up to `high`, and the cells from its head on
  pub queue_ext : {row' : ℕ → ℕ} {cells cells' : List ℕ} {X head tail : ℕ} → ((Y : ℕ) → Y ≤ s.high → row' Y ≡ row Y)
      → ((i : ℕ) → head ≤ i → at cells' i ≡ at cells i) → Queue s row cells X head tail → Queue s row' cells' X head tail
  queue_ext {row'} {cells} {cells'} {X} {head} {tail} e f q =
      record {
        ordered = q.ordered;
        entries = λ i a b. let g = f i a in rw g (q.entries i a b);
        rising = λ i j a l b. let g = key_at i a (omega arith) in let h = key_at j (omega arith) b in rw (g, h) (q.rising i j a l b);
        substitutes = λ Y c.
            let w = q.substitutes Y c in
            let g = key_at w.place w.from w.to in
            let h = key_is Y c.entry.high in
            let m = f w.place w.from in
            record { place = w.place; from = w.from; to = w.to; later = rw m w.later; cheap = rw (g, h) w.cheap };
      }
    where
      key_is : (Y : ℕ) → Y ≤ s.high → key_of s row' Y ≡ key_of s row Y
      key_is Y h = ap (λ (d : ℕ). d + s.unit * (s.top - Y)) (e Y h)

      key_at : (i : ℕ) → head ≤ i → i < tail → key_of s row' (at cells' i) ≡ key_of s row (at cells i)
      key_at i a b = let g = f i a in rw g (key_is (at cells i) (q.entries i a b).high)

  -- Entries that X outdoes leave, and X enters.
  pub queue_enter : {cells : List ℕ} {X head tail r : ℕ} → Queue s row cells X head tail → Entry s (X + 1) X → Outdone s row cells X head tail r
      → r < length cells → Queue s row (set cells r X) (X + 1) head (r + 1)
  queue_enter {cells} {X} {head} {tail} {r} q e o l =
      let p = o.passed in
      record {
        ordered = omega (arith, p.from);
        entries = λ i a b. entries i a b (dec_lt i r);
        rising = λ i j a h b. rising i j a h b (dec_lt j r);
        substitutes = λ Y c. answers Y c (dec_lt Y X);
      }
    where
      next : List ℕ
      next = set cells r X

      old : (i : ℕ) → i < r → at next i ≡ at cells i
      old i h = get_or-set_other cells r i X 0 (λ p. omega arith)

      new : (i : ℕ) → i ≡ r → at next i ≡ X
      new i p = rw p (get_or-set_same cells r X 0 l)

      entries : (i : ℕ) → head ≤ i → i < r + 1 → Dec (i < r) → Entry s (X + 1) (at next i)
      entries i a b (yes h) = let g = old i h in rw g (entry_later (X + 1) (omega arith) (q.entries i a (omega (arith, o.passed.to))))
      entries i a b (no h) = let g = new i (omega arith) in rw g e

      rising : (i j : ℕ) → head ≤ i → i < j → j < r + 1 → Dec (j < r) → key_of s row (at next i) < key_of s row (at next j)
      rising i j a h b (yes k) = let f = old i (omega arith) in let g = old j k in rw (f, g) (q.rising i j a h (omega (arith, o.passed.to)))
      rising i j a h b (no k) = let f = old i (omega arith) in let g = new j (omega arith) in rw (f, g) (o.stays i a (omega arith))

      newest : (Y : ℕ) → Y ≤ X → key_of s row X ≤ key_of s row Y → Substitute (key_of s row) next head (r + 1) Y
      newest Y h k = let g = new r refl in record { place = r; from = o.passed.from; to = omega arith; later = rw g h; cheap = rw g k }

      still : (Y : ℕ) → Y < X → (w : Substitute (key_of s row) cells head tail Y) → Dec (w.place < r)
          → Substitute (key_of s row) next head (r + 1) Y
      still Y h w (yes k) =
          let g = old w.place k in
          record { place = w.place; from = w.from; to = omega arith; later = rw g w.later; cheap = rw g w.cheap }
      still Y h w (no k) = newest Y (omega arith) (le_trans (o.passed.gone w.place (omega arith) w.to) w.cheap)

      answers : (Y : ℕ) → Candidate s (X + 1) Y → Dec (Y < X) → Substitute (key_of s row) next head (r + 1) Y
      answers Y c (yes h) =
          let a = c.entry in
          let w = q.substitutes Y (record { entry = record { low = a.low; high = a.high; below = h }; near = omega (arith, c.near) }) in
          still Y h w (dec_lt w.place r)
      answers Y c (no h) = let f : Y ≡ X = omega (arith, c.entry.below) in newest Y (omega arith) (rw f (omega arith))

  -- What leaves at the head is no candidate.
  pub queue_trim : {cells : List ℕ} {X least head tail r : ℕ} → Queue s row cells X head tail → least ≡ X - s.capacity
      → Trimmed cells least head tail r → Window s row cells X r tail
  queue_trim {cells} {X} {least} {head} {tail} {r} q e t =
      let p = t.passed in
      record {
        queue = record {
          ordered = p.to;
          entries = λ i a b. q.entries i (omega (arith, p.from)) b;
          rising = λ i j a l b. q.rising i j (omega (arith, p.from)) l b;
          substitutes = λ Y c. let w = q.substitutes Y c in still Y c w (dec_lt w.place r);
        };
        near = λ l. omega (arith, t.stays l);
      }
    where
      still : (Y : ℕ) → Candidate s X Y → (w : Substitute (key_of s row) cells head tail Y) → Dec (w.place < r)
          → Substitute (key_of s row) cells r tail Y
      still Y c w (yes h) = absurd (omega (arith, t.passed.gone w.place h w.from, w.later, c.near))
      still Y c w (no h) = record { place = w.place; from = omega arith; to = w.to; later = w.later; cheap = w.cheap }
