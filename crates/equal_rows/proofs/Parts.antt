-- The front of a list that was lent and came back, its end, and how long a row is. Assumes nothing.
use Rattle.std.proofs.Common.{◌≡◌, List, ℕ, ◌-◌, arith, length, drop}
use Rattle.std.proofs.Common.{length-drop, take_all}
use borrow.Rule.Slice.PartMut.{mid_of}

pub mid_end : (a : ℕ) (xs : List ℕ) → mid_of a (length xs - a) xs ≡ drop a xs
mid_end a xs = take_all (length xs - a) (drop a xs) (omega (arith, length-drop a xs))
