-- What the calls on the queue, and the row's loop by it, keep, in plain variables.
-- Main statements: `outdone_found`, `entered`, `best_of_lem`.
-- Assumes nothing.
use Rattle.std.proofs.Common.{◌≡◌, sym, ◌∙◌, List, ⊎_elim, ℕ, ◌+◌, ◌-◌, ◌≤◌, ◌<◌, eq-or-lt_of_le, lt_trans, arith, length, set, length-set, get_or-set_other}
use Rattle.std.proofs.Common.{add-zero, drop, slice_range, length-take, length-drop, get_or-take, get_or-drop}
use Rattle.std.proofs.Math.Decide.{dec_lt}
use Rattle.day.specs.Sums.{at}
use Rattle.theory.specs.Basics.{pick}
use Rattle.full_rows.specs.declared.Stage.{Stage}
use Rattle.full_rows.specs.declared.Choice.{Choice}
use Rattle.full_rows.specs.Row.{choice_of, best_of, StageBounded, After}
use Rattle.full_rows.specs.Queue.{key_of, Queue, Dearer, Window, Trimmed, Outdone}
use Rattle.full_rows.specs.Candidates.{QueueFor, QueueRoom, Entered, Queued}
use Rattle.full_rows.specs.declared.row.Row.{Row}
use Rattle.full_rows.specs.declared.queue.Candidates.{Candidates}
use Rattle.full_rows.specs.Moves.{queue_enter}
use Rattle.full_rows.specs.Head.{best_either}
use Rattle.full_rows.proofs.Laws.{Stepping}

-- the cells from head to tail
pub record Part (cells : List ℕ) (head tail : ℕ) (part : List ℕ) : Type 0 where
  pub is : part ≡ slice_range cells head tail
  pub ordered : head ≤ tail
  pub inside : tail ≤ length cells

pub entries_part : (q : Candidates) {part : List ℕ} → part ≡ slice_range q.cells.now q.head q.tail → Part q.cells.now q.head q.tail part
entries_part q e = record { is = e; ordered = q.ordered; inside = q.inside }

-- what holds of them by their own places
module _ {cells part : List ℕ} {head tail : ℕ} (p : Part cells head tail part) where
  part_length : length part ≡ tail - head
  part_length = let e = p.is in let l = p.inside in rw (e, length-take, length-drop) (omega arith)

  part_at : (i : ℕ) → i < length part → at part i ≡ at cells (head + i)
  part_at i h =
      let e = p.is in
      let l : i < tail - head = omega (arith, part_length) in
      rw e (get_or-take (tail - head) (drop head cells) i 0 l ∙ get_or-drop head cells i 0)

  part_back : (i : ℕ) → head ≤ i → i < tail → at cells i ≡ at part (i - head)
  part_back i a b =
      let q : head + (i - head) ≡ i = omega arith in
      rw q at (sym (part_at (i - head) (omega (arith, part_length))))

  pub queue_part : {s : Stage} {row : ℕ → ℕ} {X : ℕ} → Queue s row cells X head tail → Queue s row part X 0 (length part)
  queue_part q =
      record {
        ordered = omega arith;
        entries = λ i a b. let g = part_at i b in rw g (q.entries (head + i) (omega arith) (omega (arith, part_length)));
        rising = λ i j a l b.
            let g = part_at i (omega arith) in
            let h = part_at j b in
            rw (g, h) (q.rising (head + i) (head + j) (omega arith) (omega arith) (omega (arith, part_length)));
        substitutes = λ Y c.
            let w = q.substitutes Y c in
            let g = part_back w.place w.from w.to in
            record {
              place = w.place - head;
              from = omega arith;
              to = omega (arith, part_length, w.from, w.to);
              later = rw g at w.later;
              cheap = rw g at w.cheap;
            };
      }

  pub outdone_part : {s : Stage} {row : ℕ → ℕ} {Y : ℕ} (r : ℕ) → Outdone s row part Y 0 (length part) r → Outdone s row cells Y head tail (head + r)
  outdone_part r o =
      record {
        passed = record {
          from = omega arith;
          to = omega (arith, o.passed.to, part_length, p.ordered);
          gone = λ i a b.
              let g = part_back i (omega arith) b in
              rw g (o.passed.gone (i - head) (omega arith) (omega (arith, part_length)));
        };
        stays = λ i a b. let g = part_back i a (omega (arith, o.passed.to, part_length, p.ordered)) in rw g (o.stays (i - head) (omega arith) (omega arith));
      }

  pub trimmed_part : {least : ℕ} (r : ℕ) → Trimmed part least 0 (length part) r → Trimmed cells least head tail (head + r)
  trimmed_part r t =
      record {
        passed = record {
          from = omega arith;
          to = omega (arith, t.passed.to, part_length, p.ordered);
          gone = λ i a b.
              let g = part_back i b (omega (arith, t.passed.to, part_length, p.ordered)) in
              rw g (t.passed.gone (i - head) (omega arith) (omega arith));
        };
        stays = λ l. let g = part_at r (omega (arith, part_length)) in rw g at (t.stays (omega (arith, part_length)));
      }

  -- the first of them is at the head
  pub part_none : length part ≡ 0 → tail ≤ head
  part_none e = omega (arith, part_length)

  pub part_first : (x : ℕ) → 0 < length part → x ≡ at part 0 → (head < tail) × (x ≡ at cells head)
  part_first x l e = (omega (arith, part_length), e ∙ rw add-zero at (part_at 0 l))

-- the first from the back that is cheaper than Y stays, and so do those before it
pub outdone_found : {s : Stage} {row : ℕ → ℕ} {cells : List ℕ} {Y head tail end limit k : ℕ} → Queue s row cells Y head tail
    → Dearer s row cells Y head tail end → head < end → limit ≡ key_of s row Y → k ≡ key_of s row (at cells (end - 1)) → k < limit
    → Outdone s row cells Y head tail (end - 1 + 1)
outdone_found {s} {row} {cells} {Y} {head} {tail} {end} q o l f g h =
    let e : end - 1 + 1 ≡ end = omega arith in
    rw e
    (record {
      passed = o;
      stays = λ i a b.
          ⊎_elim
          (λ (e : i ≡ end - 1). rw e (rw (f, g) at h))
          (λ m. lt_trans (q.rising i (end - 1) a m (omega (arith, o.to))) (rw (f, g) at h))
          (eq-or-lt_of_le (omega arith));
    })

-- how a total enters
module _ {r : Row} {Y : ℕ} {q q' : Candidates} where
  pub entered : {tail : ℕ} → QueueFor r Y q → QueueRoom r Y q → Y ≤ r.stage.high
      → Outdone r.stage (at r.costs.now) q.cells.now Y q.head q.tail tail
      → q'.head ≡ q.head → q'.cells.now ≡ set q.cells.now tail Y → q'.tail ≡ tail + 1 → Entered r Y q q'
  entered {tail} f m h o e g t =
      let p = o.passed in
      record {
        queue = rw (e, g, t) (queue_enter f (record { low = m.low; high = h; below = omega arith }) o (omega (arith, p.to, m.cell)));
        few = omega (arith, p.to);
        head = e;
        kept = λ k l. rw g (get_or-set_other q.cells.now tail k Y 0 (λ e. omega (arith, p.from)));
        size = rw g (length-set q.cells.now tail Y);
      }

-- the totals below X have entered, and those to `until` are to follow
pub record Queuing (r : Row) (n until X : ℕ) (q : Candidates) : Type 0 where
  pub queued : Queued r X n q
  pub begun : r.stage.low ≤ X
  pub inside : X ≤ until

-- the cheaper of making nothing and the head's amount, which is what is chosen
module _ {s : Stage} {X : ℕ} where
  pub best_of_lem : {row : ℕ → ℕ} {cells : List ℕ} {head tail : ℕ} {none some r : Choice} → StageBounded s → After s X → Window s row cells X head tail
      → head < tail → X ≤ s.high → none ≡ choice_of s row X 0 → some ≡ choice_of s row X (X - at cells head)
      → r ≡ pick (dec_lt some.price none.price) some none → r ≡ best_of s row X
  best_of_lem b a w l h e f g = g ∙ rw (e, f) (best_either b a w l h)

-- the row's loop before it comes to the total X
pub record RowFilling (r : Row) (after choices after' choices' : List ℕ) (n : ℕ) (q : Candidates) (X : ℕ) : Type 0 where
  pub stepping : Stepping r.stage r.costs.now after choices after' choices' X
  pub queued : Queued r X n q
