-- The search for the period that serves: what `min_by_key` finds among the first d periods with capacity left. Main statement: `chosen`.
-- Assumes nothing.
use Rattle.std.proofs.Common.{◌≡◌, refl, Bool, true, false, cond, List, ◌∷◌, ℕ, zero, suc, ◌+◌}
use Rattle.std.proofs.Common.{◌≤◌, ◌<◌, arith, ltb, ltb-true, ltb-false, add-zero, add-one}
use Rattle.std.specs.Ordering.{nat_cmp, min_by_ordering, MatchOrdering}
use Rattle.std.specs.declared.cmp.Ordering.{Ordering}
use Rattle.std.specs.declared.cmp.Ordering.TheVariants.{Less, Equal, Greater}
use Rattle.std.specs.Cmp.{ranks}
use Rattle.std.specs.List.{filter, range_with_len}
use Rattle.day.specs.Sums.{below}
use Rattle.day.specs.Least.{lesser, least_from, least}
use Rattle.theory.specs.Greedy.{Source, Sources, passed_over, no_cheaper, now_cheapest}

-- What that is where the numbers are the periods with capacity left.
module _ (key capacity x : ℕ → ℕ) where
  abbrev pub with_room : (d n : ℕ) → List ℕ
  with_room d n = filter (λ k. ltb (x k) (capacity k)) (range_with_len d n)

  better : (d b : ℕ) → x d < capacity d → Source key capacity x d b → Source key capacity x (d + 1) (lesser key b d)
  better d b room s = rw (add-one d) (go (nat_cmp (key b) (key d)) (ranks (key b) (key d)))
    where
      go : (o : Ordering) → MatchOrdering o (key b < key d) (key b ≡ key d) (key d < key b)
          → Source key capacity x (suc d) (min_by_ordering o b d)
      go Less l = no_cheaper key capacity x d b (omega arith) s
      go Equal l = no_cheaper key capacity x d b (omega arith) s
      go Greater l = now_cheapest key capacity x d room (λ i h w. omega (arith, s.cheap i h w))

  -- from the best of the first d periods, over n more
  onward : (n d b : ℕ) → Source key capacity x d b → Source key capacity x (d + n) (least_from key b (with_room d n))
  onward zero d b s = rw (add-zero d) s
  onward (suc n) d b s =
      let e : d + suc n ≡ d + 1 + n = omega arith in
      rw e (go (ltb (x d) (capacity d)) refl (onward n (d + 1)))
    where
      go : (t : Bool) → ltb (x d) (capacity d) ≡ t
          → ((j : ℕ) → Source key capacity x (d + 1) j → Source key capacity x (d + 1 + n) (least_from key j (with_room (d + 1) n)))
          → Source key capacity x (d + 1 + n) (least_from key b (cond t (d ∷ with_room (d + 1) n) (with_room (d + 1) n)))
      go true e on = on (lesser key b d) (better d b (ltb-true (x d) (capacity d) e) s)
      go false e on = on b (rw (add-one d) (passed_over key capacity x d b (ltb-false (x d) (capacity d) e) s))

  -- where none of the first d has capacity left, the same
  from_none : (n d : ℕ) → ((j : ℕ) → j < d → capacity j ≤ x j) → Sources key capacity x (d + n) (least key (with_room d n))
  from_none zero d full = rw (add-zero d) full
  from_none (suc n) d full =
      let e : d + suc n ≡ d + 1 + n = omega arith in
      rw e (go (ltb (x d) (capacity d)) refl (from_none n (d + 1)))
    where
      go : (t : Bool) → ltb (x d) (capacity d) ≡ t
          → (((j : ℕ) → j < d + 1 → capacity j ≤ x j) → Sources key capacity x (d + 1 + n) (least key (with_room (d + 1) n)))
          → Sources key capacity x (d + 1 + n) (least key (cond t (d ∷ with_room (d + 1) n) (with_room (d + 1) n)))
      go true e on =
          onward n (d + 1) d
          (rw (add-one d) (now_cheapest key capacity x d (ltb-true (x d) (capacity d) e) (λ i l w. absurd (omega (arith, full i l)))))
      go false e on = on (rw (add-one d) (below (λ (i : ℕ). capacity i ≤ x i) d full (ltb-false (x d) (capacity d) e)))

  pub chosen : (d : ℕ) → Sources key capacity x d (least key (with_room 0 d))
  chosen d = let e : 0 + d ≡ d = omega arith in rw e at (from_none d 0 (λ j l. absurd (omega arith)))
