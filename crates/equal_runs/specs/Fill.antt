-- A row of states that is written from its end, over the row before it. Assumes nothing.
use Rattle.std.specs.Prelude.{◌≡◌, refl, List, ℕ, suc, ◌+◌, ◌≤◌, ◌<◌, length, set}
use Rattle.std.proofs.Common.{ap, ◌∙◌, ⊎_elim, eq-or-lt_of_le, arith, length-set, get_or-set_same, get_or-set_other}
use Rattle.day.specs.Sums.{at}
use Rattle.equal_runs.specs.declared.LoadSizes.{LoadSizes}
use Rattle.equal_runs.specs.declared.RunPeriod.{RunPeriod}
use Rattle.equal_runs.specs.declared.RunState.{RunState}
use Rattle.equal_runs.specs.Bounds.{row_most}
use Rattle.equal_runs.specs.States.{state_at, state_ext}

-- the states up to top are in the row, and no number of it is near the top of 64 bits
pub record RowLow (row : List ℕ) (top : ℕ) : Type 0 where
  pub inside : top < length row
  pub low : (s : ℕ) → s ≤ top → at row s ≤ row_most

-- from `base + s` to `base + top` the new list holds f s .. f top, and below them what the old one held
pub record RowFilled (old new : List ℕ) (base : ℕ) (f : ℕ → ℕ) (s top : ℕ) : Type 0 where
  pub size : length new ≡ length old
  pub done : (t : ℕ) → s ≤ t → t ≤ top → at new (base + t) ≡ f t
  pub low : (i : ℕ) → i < base + s → at new i ≡ at old i

pub filled_none : (l : List ℕ) (base : ℕ) (f : ℕ → ℕ) (s top : ℕ) → s ≡ suc top → RowFilled l l base f s top
filled_none l base f s top e = record { size = refl; done = λ t a b. absurd (omega arith); low = λ i h. refl }

pub filled_more : (old new : List ℕ) (base : ℕ) (f : ℕ → ℕ) (s s' top i v : ℕ)
    → RowFilled old new base f s top
    → s ≡ suc s'
    → i ≡ base + s'
    → i < length old
    → v ≡ f s'
    → RowFilled old (set new i v) base f s' top
filled_more old new base f s s' top i v d q here h e =
    record {
      size = length-set new i v ∙ d.size;
      done = λ t a b.
          ⊎_elim
          (λ (q : s' ≡ t). rw (← q, ← here) (get_or-set_same new i v 0 (omega (arith, d.size)) ∙ e))
          (λ (l : s' < t). get_or-set_other new i (base + t) v 0 (λ q. omega arith) ∙ d.done t (omega arith) b)
          (eq-or-lt_of_le a);
      low = λ k l. get_or-set_other new i k v 0 (λ q. omega arith) ∙ d.low k (omega arith);
    }

-- the states from s to top are those after the period p; what it makes stands in the second list, from base on
pub record Advanced (p : RunPeriod) (w : LoadSizes) (s top : ℕ) (row row' : List ℕ) (base : ℕ) (picks picks' : List ℕ) : Type 0 where
  pub costs : RowFilled row row' 0 (λ t. (state_at p w (at row) t).cost) s top
  pub amounts : RowFilled picks picks' base (λ t. (state_at p w (at row) t).amount) s top

module _ (p : RunPeriod) (w : LoadSizes) (row : List ℕ) (base : ℕ) (picks : List ℕ) (s top : ℕ) where
  pub advanced_none : s ≡ suc top → Advanced p w s top row row base picks picks
  advanced_none e = record { costs = filled_none row 0 _ s top e; amounts = filled_none picks base _ s top e }

  -- one state more is written, found from the row as it stands
  pub advanced_more : (s' : ℕ) (row' picks' : List ℕ) (state : RunState)
      → Advanced p w s top row row' base picks picks'
      → s ≡ suc s'
      → s' < length row
      → base + s' < length picks
      → state ≡ state_at p w (at row') s'
      → Advanced p w s' top row (set row' s' state.cost) base picks (set picks' (base + s') state.amount)
  advanced_more s' row' picks' state a e inside inside' f =
      let same : state ≡ state_at p w (at row) s' = f ∙ state_ext p w (at row') (at row) s' (λ t h. a.costs.low t (omega arith)) in
      record {
        costs = filled_more row row' 0 _ s s' top s' _ a.costs e (omega arith) inside (ap (λ (v : RunState). v.cost) same);
        amounts = filled_more picks picks' base _ s s' top _ _ a.amounts e refl inside' (ap (λ (v : RunState). v.amount) same);
      }
