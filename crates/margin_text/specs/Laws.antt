-- How the text comes about: needs one after another, a line for each margin. Main statements: `listed_more`, one need more; `margins_more`, one line
-- more. Assumes nothing.
use Rattle.std.specs.Prelude.{◌≡◌, refl, List, [], ◌∷◌, ◌++◌, ℕ, zero, suc, ◌+◌, ◌*◌, ◌≤◌, ◌<◌, length}
use Rattle.std.proofs.Common.{ap, add-one, arith, length-append}
use Rattle.day.specs.Sums.{at, list_of}
use Rattle.day.specs.Day.{Day, max_demand, max_periods, periods}
use Rattle.lines.specs.Text.{margin_bytes}
use Rattle.margin_text.specs.Margins.{SaysMargin, SaysMargins}

-- every need is within its limit
pub record LowNeeds (demand : List ℕ) : Type 0 where
  pub few : length demand ≤ max_periods
  pub low : (k : ℕ) → k < length demand → at demand k ≤ max_demand

-- a day that margins are tried on: its needs are within their limit, and there is an actual need for each period
pub record Tried (d : Day) (actual : List ℕ) : Type 0 where
  pub needs : LowNeeds d.demand
  pub size : length actual ≡ periods d

-- needs put one after another: f 0, .. f (i - 1) are there
pub record Listed (f : ℕ → ℕ) (i : ℕ) (needs : List ℕ) : Type 0 where
  pub is : needs ≡ list_of f i
  pub size : length needs ≡ i

-- one need more
pub listed_more : {f : ℕ → ℕ} {i : ℕ} {needs after : List ℕ} (v : ℕ) → Listed f i needs → v ≡ f i → after ≡ needs ++ (v ∷ []) → Listed f (i + 1) after
listed_more {f} {i} {needs} v w e put =
    rw put (record { is = rw (w.is, e, add-one) (go f i); size = omega (arith, length-append needs (v ∷ []), w.size) })
  where
    go : (g : ℕ → ℕ) (k : ℕ) → list_of g k ++ (g k ∷ []) ≡ list_of g (suc k)
    go g zero = refl
    go g (suc k) = ap (λ (l : List ℕ). g 0 ∷ l) (go (λ j. g (suc j)) k)

-- a text is the lines of the first k margins, with room for the others
pub record MarginLines (d : Day) (actual : ℕ → ℕ) (k : ℕ) (text : List ℕ) : Type 0 where
  pub few : length text ≤ k * margin_bytes
  pub says : SaysMargins d actual k text

-- one line more
pub margins_more : {d : Day} {actual : ℕ → ℕ} {k : ℕ} {before line after : List ℕ} (said : List ℕ) → MarginLines d actual k before
    → SaysMargin d actual k said
    → (line ≡ said) × (length line ≤ margin_bytes)
    → after ≡ before ++ line
    → MarginLines d actual (k + 1) after
margins_more {before = before} {line} said w says shown put =
    rw (put, add-one)
    (record {
      few = omega (arith, length-append before line, w.few, shown.1);
      says = record { before = before; after = said; first = w.says; second = says; is = ap (λ (l : List ℕ). before ++ l) shown.0 };
    })
