-- What the search and the service ask, and what a call tells that may find no capacity.
-- Main definitions: `Covers`, `Told`. Main statements: `served_turn`, `served_stuck`, one turn of the service of a need; `told_next`, `told_stuck`, one need
-- more. Assumes nothing.
use Rattle.std.specs.Prelude.{◌≡◌, Option, Some, None, List, ℕ, suc, ◌+◌, ◌-◌, ◌≤◌, ◌<◌, min, length, set}
use Rattle.std.proofs.Common.{sym, ap, ◌∙◌, subst, arith}
use Rattle.day.specs.Sums.{at}
use Rattle.theory.specs.Greedy.{after, Source, Sources, serve, greedy_to, source_none, serve_turn, serve_stuck, greedy_to_stuck}

-- a key, a capacity and a slot for each of the first d periods
pub record Covers (d : ℕ) (cells capacity slots : List ℕ) : Type 0 where
  pub keys : d ≤ length cells
  pub capacities : d ≤ length capacity
  pub room : d ≤ length slots

-- the amounts g in the slots are what was asked for, or there is no capacity for it
abbrev pub Told : Option (Unit {0}) → Option (List ℕ) → List ℕ → Type 0
Told (Some _) o g = o ≡ Some g
Told None o g = o ≡ None

-- What the loop that serves one need does with it.
module _ (key capacity : ℕ → ℕ) (d : ℕ) (g : List ℕ) (left : ℕ) (o : Option (List ℕ)) (l : 0 < left) (e : serve key capacity d left g ≡ o) where
  pub served_turn : (k q : ℕ) → Source key capacity (at g) d k → q ≡ min left (capacity k - at g k)
      → serve key capacity d (left - q) (set g k (at g k + q)) ≡ o
  served_turn k q s is =
      let swap : at g k + q ≡ q + at g k = omega arith in
      rw (swap, is) (sym (serve_turn key capacity d left g k l s) ∙ e)

  pub served_stuck : Sources key capacity (at g) d None → o ≡ None
  served_stuck full = sym e ∙ serve_stuck key capacity d left g l (source_none key capacity (at g) d full)

-- What the loop over the needs does with it.
module _ (key capacity need : ℕ → ℕ) (d : ℕ) (slots g h : List ℕ) (r : Option (Unit {0}))
    (told : Told r (serve key capacity (suc d) (need d) g) h) (so_far : greedy_to key capacity need d slots ≡ Some g) where
  next : Told r (greedy_to key capacity need (suc d) slots) h
  next =
      subst (λ (o : Option (List ℕ)). Told r o h)
      (sym (ap (λ (o : Option (List ℕ)). after o (serve key capacity (suc d) (need d))) so_far)) told

  pub told_next : (u : Unit {0}) → r ≡ Some u → greedy_to key capacity need (suc d) slots ≡ Some h
  told_next u e = rw e at next

  pub told_stuck : (n : ℕ) → d < n → r ≡ None → greedy_to key capacity need n slots ≡ None
  told_stuck n l e = greedy_to_stuck key capacity need slots (suc d) n l (rw e at next)
