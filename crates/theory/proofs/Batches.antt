-- The greedy rule as a loop computes it gives the optimal plan where all setups are free, and nothing only where no amounts keep the rules.
-- The rule is `greedy` of specs/Batches. Main statements: `greedy_right`, `greedy_covered`. Assumes nothing.
use Rattle.std.specs.Prelude.{◌≡◌, refl, List, ℕ, zero, suc, ◌+◌, ◌-◌, ◌≤◌, ◌<◌, length, drop, set, replicate, Option, None, Some}
use Rattle.std.proofs.Common.{◌∙◌, le_of_suc-le-suc, arith, length-set, length-append, length-drop, get_or-set_same, get_or-set_other, drop-set-lt}
use Rattle.std.proofs.lemmas.List.{length-replicate, get_or-replicate}
use Rattle.std.proofs.Math.ListN.{get_or-append}
use Rattle.day.specs.Sums.{at}
use Rattle.day.specs.Outcome.{cleared}
use Rattle.theory.specs.Model.{Model, Rising, Unlimited, FeasibleTo, OptimalTo}
use Rattle.theory.specs.Recursion.{optimal_exists}
use Rattle.theory.specs.Cut.{floor_grows}
use Rattle.theory.specs.Reachable.{Covered, interval}
use Rattle.theory.specs.Greedy.{after, source, batch, serve, greedy_to, Sources, source_right, batch_some, serve_done, serve_turn, serve_stuck}
use Rattle.theory.specs.FreeSetups.{Free, key, More, Progress, Due, progress_start, progress_turn, no_plan, done_optimal}
use Rattle.theory.specs.Batches.{Adds, Fresh, Filled, Solves, greedy}

-- so are n slots cleared
pub cleared_length : (n : ℕ) (slots : List ℕ) → n ≤ length slots → length (cleared n slots) ≡ length slots
cleared_length n slots l = simp (length-append, length-drop, length-replicate) (omega arith)

pub cleared_fresh : (n : ℕ) (slots : List ℕ) → n ≤ length slots → Fresh n (cleared n slots)
cleared_fresh n slots l =
    record {
      long = omega (arith, cleared_length n slots l);
      zeros = λ k h.
          get_or-append (replicate n 0) (drop n slots) 0 k (omega (arith, length-replicate {A = ℕ} n 0)) ∙ get_or-replicate n k 0 0 h;
    }

module _ (M : Model) (rising : Rising M) (unlimited : Unlimited M) (n : ℕ) (free : Free M n) (slots : List ℕ) (fresh : Fresh n slots) where
  -- the slots in which t units are served
  pub record Slots (t : ℕ) (g : List ℕ) : Type 0 where
    pub each : length g ≡ length slots
    pub rest : drop n g ≡ drop n slots
    pub progress : Progress M n t (at g)

  -- what the rule has come to: progress, or nothing, and then no plan is
  abbrev Reached : ℕ → Option (List ℕ) → Type 0
  Reached t None = (y : ℕ → ℕ) → OptimalTo M n (M.floor n) y → ⊥
  Reached t (Some g) = Slots t g

  nothing_left : (d t : ℕ) (g : List ℕ) → t + 0 ≡ M.floor d → Slots t g → Reached (M.floor d) (serve (key M n) M.capacity d 0 g)
  nothing_left d t g e s =
      let q : t ≡ M.floor d = omega arith in
      rw (serve_done (key M n) M.capacity d g, ← q) s

  -- a batch more
  batch_more : (d t w k : ℕ) (g : List ℕ) → d ≤ n → ((i : ℕ) → i < d → M.floor i ≤ t) → t + w ≡ M.floor d → Slots t g
      → Sources (key M n) M.capacity (at g) d (Some k)
      → let b = batch M.capacity g k w in Slots (b + t) (set g k (b + at g k))
  batch_more d t w k g dn before e s best =
      let b : ℕ = batch M.capacity g k w in
      let inside : k < n = omega (arith, best.inside) in
      let long : k < length g = omega (arith, s.each, fresh.long) in
      let due : Due M n t d (at g) = record { progress = s.progress; inside = dn; before = before } in
      let more : More k b (at g) (at (set g k (b + at g k))) =
      record { here = get_or-set_same g k (b + at g k) 0 long; others = λ i h. get_or-set_other g k i (b + at g k) 0 h } in
      record {
        each = length-set g k (b + at g k) ∙ s.each;
        rest = drop-set-lt n g k (b + at g k) inside ∙ s.rest;
        progress = progress_turn M rising unlimited n free t d (at g) due k b (at (set g k (b + at g k))) best more
            (omega (arith, best.room)) (omega arith);
      }

  -- the units left of what is due after d periods, in batches
  serve_right : (d : ℕ) → d ≤ n → (turns w t : ℕ) (g : List ℕ) → w ≤ turns → t + w ≡ M.floor d → ((i : ℕ) → i < d → M.floor i ≤ t) → Slots t g
      → Reached (M.floor d) (serve (key M n) M.capacity d w g)
  serve_right d dn zero zero t g l e before s = nothing_left d t g e s
  serve_right d dn zero (suc w) t g l e before s = absurd (omega arith)
  serve_right d dn (suc turns) zero t g l e before s = nothing_left d t g e s
  serve_right d dn (suc turns) (suc w) t g l e before s =
      go (source (key M n) M.capacity (at g) d) refl (source_right (key M n) M.capacity (at g) d)
      (λ v r h a b c f. serve_right d dn turns v r h a b c f)
    where
      go : (o : Option ℕ) → source (key M n) M.capacity (at g) d ≡ o → Sources (key M n) M.capacity (at g) d o
          → ((v r : ℕ) (h : List ℕ) → v ≤ turns → r + v ≡ M.floor d → ((i : ℕ) → i < d → M.floor i ≤ r) → Slots r h
          → Reached (M.floor d) (serve (key M n) M.capacity d v h))
          → Reached (M.floor d) (serve (key M n) M.capacity d (suc w) g)
      go None q full old =
          rw (serve_stuck (key M n) M.capacity d (suc w) g (omega arith) q)
          (λ y best. no_plan M rising unlimited n free t d (at g) (record { progress = s.progress; inside = dn; before = before }) y best full (omega arith))
      go (Some k) q best old =
          let b : ℕ = batch M.capacity g k (suc w) in
          let some-b = batch_some (key M n) M.capacity d g k (suc w) best (omega arith) in
          rw (serve_turn (key M n) M.capacity d (suc w) g k (omega arith) best)
          (old (suc w - b) (b + t) (set g k (b + at g k)) (omega arith) (omega arith) (λ i h. omega (arith, before i h))
          (batch_more d t (suc w) k g dn before e s best))

  module _ (need : ℕ → ℕ) (adds : Adds M n need) where
    next_right : (d : ℕ) → d < n → (o : Option (List ℕ)) → Reached (M.floor d) o
        → Reached (M.floor (suc d)) (after o (serve (key M n) M.capacity (suc d) (need d)))
    next_right d l None r = r
    next_right d l (Some g) s =
        serve_right (suc d) l (need d) (need d) (M.floor d) g (omega arith) (adds d l) (λ i h. floor_grows M rising i d (le_of_suc-le-suc h)) s

    -- every need in turn
    greedy_to_right : (d : ℕ) → d ≤ n → Reached (M.floor d) (greedy_to (key M n) M.capacity need d slots)
    greedy_to_right zero l =
        rw rising.nought
        (record { each = refl; rest = refl; progress = progress_start M rising unlimited n free (at slots) fresh.zeros })
    greedy_to_right (suc d) l = next_right d l (greedy_to (key M n) M.capacity need d slots) (greedy_to_right d (omega arith))

    solves : (o : Option (List ℕ)) → Reached (M.floor n) o → Solves M n slots o
    solves None r = λ y f. let w = optimal_exists M n (M.floor n) y f in r w.0 w.1
    solves (Some g) s = record { each = s.each; rest = s.rest; optimal = done_optimal M rising unlimited n free (at g) s.progress }

    -- The rule gives the plan, and nothing only where no amounts keep the rules.
    pub greedy_right : Solves M n slots (greedy M n need slots)
    unfolding greedy
    greedy_right = solves (greedy M n need slots) (greedy_to_right n (omega arith))

    given : (o : Option (List ℕ)) → Solves M n slots o → (y : ℕ → ℕ) → FeasibleTo M n (M.floor n) y
        → (g : List ℕ) × (o ≡ Some g) × Filled M n slots g
    given None s y f = absurd (s y f)
    given (Some g) s y f = (g, refl, s)

    -- It gives the plan where every floor can be reached, which is what refusal 7 tests.
    pub greedy_covered : Covered M n → (g : List ℕ) × (greedy M n need slots ≡ Some g) × Filled M n slots g
    greedy_covered enough =
        let r = interval M rising n enough (M.floor n) (omega arith) (enough n (omega arith)) in
        given (greedy M n need slots) greedy_right r.0 r.1
