-- A turn puts what it read behind what was read before.
use Rattle.std.proofs.Common.{◌≡◌, List, ℕ, ◌+◌, ◌-◌, ◌≤◌, ◌++◌, rules, length, take, sym, subst, length-take-le}
use Rattle.std.proofs.Math.Seq.{take-append-le, take-append-add}
use Rattle.std.proofs.KnownBytes.{Consumes-trans}
use Rattle.std.specs.Io.KnownBytes.{Consumes}
use borrow.Rule.Slice.PartMut.{put_mid, post_of}
use Rattle.input.proofs.read.Goals as goal

-- the bytes up to the end of what was read into a part
read_into : (from k n : ℕ) (xs ys : List ℕ) → from ≤ length xs → n ≤ length ys → take (from + n) (put_mid from k xs ys) ≡ take from xs ++ take n ys
read_into from k n xs ys within fits =
    let after = post_of from k xs in
    rw (length-take-le from xs within, take-append-le n ys after fits) at (take-append-add (take from xs) (ys ++ after) n)

pub loop-have-preserved : goal.loop-have-preserved
loop-have-preserved g c =
    let l = c.loop-have in
    let is = read_into l.have (length l.room - l.have) c.in_ok-n.n l.room c.read.new.buf l.invariant.within c.in_ok-n.ensures.bound.0 in
    record {
      within = search rules;
      size = search rules;
      bytes = subst (Consumes _ _) (sym is) (Consumes-trans _ _ _ _ _ l.invariant.bytes c.in_ok-n.ensures.bytes.0);
    }
