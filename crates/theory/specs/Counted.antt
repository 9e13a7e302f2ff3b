-- How many batches the greedy rule takes: one ends a need or fills a period, so there are at most as many as needs and periods together.
-- Main definition: `BatchesTo`. Main statements: `greedy_to_batches`; `few_batches`, at most 2 × n, whatever the needs are. Assumes nothing.
use Rattle.std.proofs.lemmas.Option.{none-some, same_Some}
use Rattle.std.specs.Prelude.{◌≡◌, refl, List, ℕ, zero, suc, ◌+◌, ◌-◌, ◌*◌, ◌≤◌, ◌<◌, min, length, set, Option, None, Some}
use Rattle.std.proofs.Common.{sym, ap, ◌∙◌, arith, length-set, get_or-set_same, get_or-set_other}
use Rattle.std.proofs.Math.Decide.{dec_lt, ℕ_discrete}
use Rattle.day.specs.Sums.{at, sum_to, sum_ext}
use Rattle.theory.specs.Greedy.{after, source, batch, serve, greedy_to, Source, Sources, source_right, batch_some, serve_done, serve_turn, serve_stuck}
use Rattle.theory.specs.FreeSetups.{more_high}

-- 1 where a period has capacity left
abbrev open_at : (capacity amount : ℕ) → ℕ
open_at c x = min 1 (c - x)

module _ (key capacity : ℕ → ℕ) where
  -- the amounts after a batch of period k, of w units
  abbrev next : List ℕ → (k w : ℕ) → List ℕ
  next g k w = set g k (batch capacity g k w + at g k)

  -- w units come from the first d periods in m batches, which lead from the amounts g to h
  abbrev pub Batches : (d m w : ℕ) → (g h : List ℕ) → Type 0
  Batches d zero w g h = (w ≡ 0) × (g ≡ h)
  Batches d (suc m) w g h =
      (k : ℕ) × (0 < w) × Source key capacity (at g) d k × Batches d m (w - batch capacity g k w) (next g k w) h

  -- the needs of the first d periods in m batches
  abbrev pub BatchesTo : (need : ℕ → ℕ) → (d m : ℕ) → (g h : List ℕ) → Type 0
  BatchesTo need zero m g h = (m ≡ 0) × (g ≡ h)
  BatchesTo need (suc d) m g h = (f : List ℕ) × (a : ℕ) × (b : ℕ) × BatchesTo need d a g f × Batches (suc d) b (need d) f h × (m ≡ a + b)

  -- what the rule gives it gives in batches
  served_all : (d : ℕ) (g h : List ℕ) → serve key capacity d 0 g ≡ Some h → (m : ℕ) × Batches d m 0 g h
  served_all d g h e = (0, (refl, same_Some g h (sym (serve_done key capacity d g) ∙ e)))

  serve_batches : (d turns w : ℕ) (g h : List ℕ) → w ≤ turns → serve key capacity d w g ≡ Some h → (m : ℕ) × Batches d m w g h
  serve_batches d zero zero g h l e = served_all d g h e
  serve_batches d zero (suc w) g h l e = absurd (omega arith)
  serve_batches d (suc turns) zero g h l e = served_all d g h e
  serve_batches d (suc turns) (suc w) g h l e =
      go (source key capacity (at g) d) refl (source_right key capacity (at g) d) (λ v f a b. serve_batches d turns v f h a b)
    where
      go : (o : Option ℕ) → source key capacity (at g) d ≡ o → Sources key capacity (at g) d o
          → ((v : ℕ) (f : List ℕ) → v ≤ turns → serve key capacity d v f ≡ Some h → (m : ℕ) × Batches d m v f h)
          → (m : ℕ) × Batches d m (suc w) g h
      go None q s old = absurd (none-some h (sym (serve_stuck key capacity d (suc w) g (omega arith) q) ∙ e))
      go (Some k) q s old =
          let r = old (suc w - batch capacity g k (suc w)) (next g k (suc w)) (omega (arith, batch_some key capacity d g k (suc w) s (omega arith)))
          (sym (serve_turn key capacity d (suc w) g k (omega arith) s) ∙ e) in
          (suc r.0, (k, omega arith, s, r.1))

  pub greedy_to_batches : (need : ℕ → ℕ) (d : ℕ) (g h : List ℕ) → greedy_to key capacity need d g ≡ Some h → (m : ℕ) × BatchesTo need d m g h
  greedy_to_batches need zero g h e = (0, (refl, same_Some g h e))
  greedy_to_batches need (suc d) g h e = go (greedy_to key capacity need d g) refl e (λ f q. greedy_to_batches need d g f q)
    where
      go : (o : Option (List ℕ)) → greedy_to key capacity need d g ≡ o → after o (serve key capacity (suc d) (need d)) ≡ Some h
          → ((f : List ℕ) → greedy_to key capacity need d g ≡ Some f → (m : ℕ) × BatchesTo need d m g f)
          → (m : ℕ) × BatchesTo need (suc d) m g h
      go None q e old = absurd (none-some h e)
      go (Some f) q e old =
          let r = old f q in
          let t = serve_batches (suc d) (need d) (need d) f h (omega arith) e in
          (r.0 + t.0, (f, r.0, t.0, r.1, t.1, refl))

  -- Of n periods, how many have capacity left.
  module _ (n : ℕ) where
    abbrev unfilled : List ℕ → ℕ
    unfilled g = sum_to (λ k. open_at (capacity k) (at g k)) n

    unfilled_few : (i : ℕ) (x : ℕ → ℕ) → sum_to (λ k. open_at (capacity k) (x k)) i ≤ i
    unfilled_few zero x = omega arith
    unfilled_few (suc i) x = omega (arith, unfilled_few i x)

    module _ (g : List ℕ) (k v : ℕ) (inside : k < n) (long : n ≤ length g) (room : at g k < capacity k) where
      here : at (set g k v) k ≡ v
      here = get_or-set_same g k v 0 (omega arith)

      -- a batch that fills its period closes it, any other closes none
      fills : capacity k ≤ v → unfilled g ≡ 1 + unfilled (set g k v)
      fills full =
          more_high k 1 (λ i. open_at (capacity i) (at (set g k v) i)) (λ i. open_at (capacity i) (at g i))
          (record {
            here = omega (arith, here);
            others = λ i h. ap (open_at (capacity i)) (sym (get_or-set_other g k i v 0 h));
          })
          n inside

      leaves : v < capacity k → unfilled (set g k v) ≡ unfilled g
      leaves less = sum_ext (λ i. open_at (capacity i) (at (set g k v) i)) (λ i. open_at (capacity i) (at g i)) n (λ i l. go i (ℕ_discrete i k))
        where
          go : (i : ℕ) → Dec (i ≡ k) → open_at (capacity i) (at (set g k v) i) ≡ open_at (capacity i) (at g i)
          go i (yes e) = rw e (omega (arith, here))
          go i (no h) = ap (open_at (capacity i)) (get_or-set_other g k i v 0 h)

    -- where nothing is left there is no batch more
    none_left : (d m w : ℕ) (g h : List ℕ) → w ≡ 0 → Batches d m w g h → (m ≡ 0) × (g ≡ h)
    none_left d zero w g h e (_, same) = (refl, same)
    none_left d (suc m) w g h e (k, more, _, _) = absurd (omega arith)

    length_kept : (d m w : ℕ) (g h : List ℕ) → Batches d m w g h → length h ≡ length g
    length_kept d zero w g h (_, same) = ap length (sym same)
    length_kept d (suc m) w g h (k, _, _, rest) =
        length_kept d m (w - batch capacity g k w) (next g k w) h rest ∙ length-set g k (batch capacity g k w + at g k)

    -- the batches of one need, but for one, each close a period
    few_of_one : (d m w : ℕ) (g h : List ℕ) → d ≤ n → n ≤ length g → Batches d m w g h → m + unfilled h ≤ unfilled g + 1
    few_of_one d zero w g h dn long (_, same) = rw (← same) (omega arith)
    few_of_one d (suc m) w g h dn long (k, more, s, rest) =
        go (dec_lt (batch capacity g k w + at g k) (capacity k))
        (few_of_one d m (w - batch capacity g k w) (next g k w) h dn (omega (arith, length-set g k (batch capacity g k w + at g k))) rest)
      where
        kn : k < n
        kn = omega (arith, s.inside)

        go : Dec (batch capacity g k w + at g k < capacity k) → m + unfilled h ≤ unfilled (next g k w) + 1 → suc m + unfilled h ≤ unfilled g + 1
        go (no full) old = omega (arith, fills g k (batch capacity g k w + at g k) kn long s.room (omega arith), old)
        go (yes less) old =
            let e = none_left d m (w - batch capacity g k w) (next g k w) h (omega arith) rest in
            omega (arith, e.0, ap unfilled e.1, leaves g k (batch capacity g k w + at g k) kn long s.room less)

    few_to : (need : ℕ → ℕ) (d m : ℕ) (g h : List ℕ) → d ≤ n → n ≤ length g → BatchesTo need d m g h
        → (m + unfilled h ≤ unfilled g + d) × (length h ≡ length g)
    few_to need zero m g h dn long (z, same) = (rw (z, ← same) (omega arith), ap length (sym same))
    few_to need (suc d) m g h dn long (f, a, b, first, last, sum) =
        let r = few_to need d a g f (omega arith) long first in
        let q = few_of_one (suc d) b (need d) f h dn (omega (arith, r.1)) last in
        (omega (arith, r.0, q, sum), length_kept (suc d) b (need d) f h last ∙ r.1)

    -- All needs take at most 2 × n batches.
    pub few_batches : (need : ℕ → ℕ) (m : ℕ) (g h : List ℕ) → n ≤ length g → BatchesTo need n m g h → m ≤ 2 * n
    few_batches need m g h long batches =
        omega (arith, (few_to need n m g h (omega arith) long batches).0, unfilled_few n (at g))
