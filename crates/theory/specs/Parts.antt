-- A part of a list, from a on, that is written anew: what stands before it and in it, and how long it is. Assumes nothing.
use Rattle.std.specs.Prelude.{◌≡◌, List, ℕ, ◌+◌, ◌-◌, ◌≤◌, ◌<◌, length, take, drop}
use Rattle.std.proofs.Common.{◌∙◌, arith, length-take, length-take-le, length-drop, get_or-take}
use Rattle.std.proofs.lemmas.List.{get_or_append_left, get_or-append_right}
use borrow.Rule.Slice.PartMut.{put_mid}
use Rattle.day.specs.Sums.{at}

module _ (a k : ℕ) (l part : List ℕ) (inside : a ≤ length l) where
  pub front_at : (j : ℕ) → j < a → at (put_mid a k l part) j ≡ at l j
  front_at j h =
      get_or_append_left (take a l) _ 0 j (omega (arith, length-take-le a l inside)) ∙ get_or-take a l j 0 h

  pub part_at : (j : ℕ) → j < length part → at (put_mid a k l part) (a + j) ≡ at part j
  part_at j h =
      let e : a + j - a ≡ j = omega arith in
      get_or-append_right (take a l) _ a (a + j) 0 (length-take-le a l inside) (omega arith)
      ∙ rw e (get_or_append_left part _ 0 j h)

pub part_size : (l : List ℕ) (a : ℕ) → length (take (length l - a) (drop a l)) ≡ length l - a
part_size l a = simp (length-take, length-drop) (omega arith)
