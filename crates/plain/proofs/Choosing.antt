-- What `min_by_key` keeps of the plans that hold, as they come in the order of their numbers. Main statement: `chosen`. Assumes nothing.
use Rattle.std.proofs.Common.{◌≡◌, refl, Some, None, Ok, Err, List, ℕ, zero, suc, ◌+◌}
use Rattle.std.proofs.Common.{◌<◌, arith, add-zero, add-one, le-leb}
use Rattle.std.proofs.lemmas.Bool.{lt-leb}
use Rattle.std.specs.Ordering.{nat_cmp, min_by_ordering, MatchOrdering}
use Rattle.std.specs.declared.cmp.Ordering.{Ordering}
use Rattle.std.specs.declared.cmp.Ordering.TheVariants.{Less, Equal, Greater}
use Rattle.std.specs.Cmp.{ranks}
use Rattle.std.specs.List.{filter_map, range_with_len, cons_option}
use Rattle.day.specs.Day.{Day}
use Rattle.day.specs.Least.{lesser, least_from, least}
use Rattle.weigher.specs.Answers.{Weighed, weighed_of}
use Rattle.plain.specs.declared.Best.{Best}
use Rattle.plain.specs.Search.{plan_of, found_of, found_at, better_of, Chosen, chosen_more}

abbrev pub cost_of : Best → ℕ
cost_of b = b.totals.cost

-- What that is where the plans are those that hold, from number m on.
module _ (d : Day) where
  abbrev pub held_from : (m n : ℕ) → List Best
  held_from m n = filter_map (found_at d) (range_with_len m n)

  -- one more plan that holds
  better_is : (b k : Best) → better_of (Some b) k.plan (Ok k.totals) ≡ Some (lesser cost_of b k)
  better_is b k = go (nat_cmp (cost_of b) (cost_of k)) (ranks (cost_of b) (cost_of k))
    where
      go : (o : Ordering) → MatchOrdering o (cost_of b < cost_of k) (cost_of b ≡ cost_of k) (cost_of k < cost_of b)
          → better_of (Some b) k.plan (Ok k.totals) ≡ Some (min_by_ordering o b k)
      go Less l = rw (le-leb (cost_of b) (cost_of k) (omega arith)) refl
      go Equal l = rw (le-leb (cost_of b) (cost_of k) (omega arith)) refl
      go Greater l = rw (lt-leb (cost_of b) (cost_of k) (omega arith)) refl

  -- from the best of the first m plans, over n more
  onward : (n m : ℕ) (b : Best) → Chosen d m (Some b) → Chosen d (m + n) (Some (least_from cost_of b (held_from m n)))
  onward zero m b c = rw (add-zero m) c
  onward (suc n) m b c =
      let e : m + suc n ≡ m + 1 + n = omega arith in
      rw e (go (weighed_of d (plan_of m)) (chosen_more d m (Some b) c) (onward n (m + 1)))
    where
      go : (w : Weighed) → Chosen d (suc m) (better_of (Some b) (plan_of m) w)
          → ((b : Best) → Chosen d (m + 1) (Some b) → Chosen d (m + 1 + n) (Some (least_from cost_of b (held_from (m + 1) n))))
          → Chosen d (m + 1 + n) (Some (least_from cost_of b (cons_option (found_of (plan_of m) w) (held_from (m + 1) n))))
      go (Err fault) more on = on b (rw (add-one m) more)
      go (Ok t) more on =
          let k : Best = record { totals = t; plan = plan_of m } in
          on (lesser cost_of b k) (rw (add-one m) (rw (better_is b k) at more))

  -- where none of the first m holds, the same
  from_none : (n m : ℕ) → Chosen d m None → Chosen d (m + n) (least cost_of (held_from m n))
  from_none zero m c = rw (add-zero m) c
  from_none (suc n) m c =
      let e : m + suc n ≡ m + 1 + n = omega arith in
      rw e (go (weighed_of d (plan_of m)) (chosen_more d m None c) (from_none n (m + 1)))
    where
      go : (w : Weighed) → Chosen d (suc m) (better_of None (plan_of m) w)
          → (Chosen d (m + 1) None → Chosen d (m + 1 + n) (least cost_of (held_from (m + 1) n)))
          → Chosen d (m + 1 + n) (least cost_of (cons_option (found_of (plan_of m) w) (held_from (m + 1) n)))
      go (Err fault) more on = on (rw (add-one m) more)
      go (Ok t) more on =
          let k : Best = record { totals = t; plan = plan_of m } in
          onward n (m + 1) k (rw (add-one m) more)

  pub chosen : (n : ℕ) → Chosen d n (least cost_of (held_from 0 n))
  chosen n = let e : 0 + n ≡ n = omega arith in rw e at (from_none n 0 (λ j l t h. absurd (omega arith)))
