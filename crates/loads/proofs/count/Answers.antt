-- The period's loads are those of its capacity and its amount.
use Rattle.std.proofs.Common.{◌≡◌, ℕ, ◌+◌, ◌*◌, arith}
use Rattle.std.proofs.lemmas.Slice.Zip.{zip_turn}
use Rattle.std.proofs.lemmas.List.{length_push}
use Rattle.day.specs.Sums.{at, sum_to, Term, term_more}
use Rattle.day.specs.Loads.{full_at, part_at}
use Rattle.loads.proofs.count.Goals as goal

-- a period more, whose load is counted
counted : (f : ℕ → ℕ) (i j : ℕ) {sum r : ℕ} → j ≡ i + 1 → Term (sum_to f i) (1 * i) sum → Term (f i) 1 r → Term (sum_to f j) (1 * j) (sum + r)
counted f i j e t h = rw (e, h.is) (term_more f 1 i t (omega (arith, h.is, h.low)))

pub loop-most-preserved : goal.loop-most-preserved
loop-most-preserved c =
    let capacity = at c.args.capacity.now in
    let plan = at c.args.plan.now in
    let passed = c.loop-most.yielded in
    let here = zip_turn c.args.capacity.now c.args.plan.now passed c.into_iter-most-iterator.result c.loop-most.most-iterator c.next.new.self _ (cc) (cc)
    c.loop-most.yielded_by _ c.in-Some.is c.next.ensures.steps in
    let next = length_push passed _ in (
      counted (λ k. full_at (capacity k) (plan k)) _ _ next c.loop-most.invariant.0 (rw (here.2 0, here.3 0) at c.load-full.ensures),
      counted (λ k. part_at (capacity k) (plan k)) _ _ next c.loop-most.invariant.1 (rw (here.2 0, here.3 0) at c.load-part.ensures),
    )
