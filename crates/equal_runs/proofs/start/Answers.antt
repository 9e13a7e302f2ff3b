-- The first state costs nothing, and the others are marked.
use Rattle.std.proofs.Common.{◌≡◌, refl, ◌∙◌, List, [], ◌∷◌, ℕ, zero, suc, ◌≤◌, ◌<◌, zero-add, arith, rules}
use Rattle.std.proofs.Common.{length, drop, replicate, set, length-set, length-append, length-drop}
use Rattle.std.proofs.lemmas.List.{length-replicate, get_or-replicate}
use lib.ListN.{get_or-append}
use borrow.Rule.Slice.PartMut.{put_mid}
use Rattle.day.specs.Sums.{at}
use Rattle.equal_runs.specs.Bounds.{marker}
use Rattle.equal_runs.specs.Fill.{RowFilled}
use Rattle.equal_runs.specs.Run.{start_of}
use Rattle.equal_runs.proofs.start.Goals as goal

started : (row marks : List ℕ) (top k : ℕ) → k ≡ top → top < length row → marks ≡ replicate top marker
    → RowFilled row (put_mid 1 k (set row 0 0) marks) 0 start_of 0 top
started [] marks top k e h m = absurd (omega arith)
started (x ∷ xs) marks top k e h m = record { size = size; done = λ t a b. rw (zero-add t) (each t b); low = λ i l. absurd (omega arith) }
  where
    size : length (put_mid 1 k (0 ∷ xs) marks) ≡ length (x ∷ xs)
    size = rw (m, e) (omega (arith, length-append (replicate top marker) (drop top xs), length-replicate top marker, length-drop top xs))

    each : (t : ℕ) → t ≤ top → at (put_mid 1 k (0 ∷ xs) marks) t ≡ start_of t
    each zero l = refl
    each (suc t) l =
        rw m (get_or-append (replicate top marker) _ 0 t (omega (arith, length-replicate top marker)) ∙ get_or-replicate top t marker 0 (omega arith))

pub returns : goal.returns
returns c = started _ _ _ _ (omega (arith, length-set c.args.row.now 0 0)) (omega (arith, c.requires)) (search rules)
