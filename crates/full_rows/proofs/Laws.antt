-- What the row step's functions compute, in plain variables.
-- Assumes nothing.
use Rattle.std.proofs.Common.{◌≡◌, refl, ◌∙◌, List, ℕ, suc, ◌+◌, ◌-◌, ◌≤◌, ◌<◌, arith, length}
use Rattle.std.proofs.Math.Decide.{dec_lt}
use Rattle.day.specs.Sums.{at}
use Rattle.theory.specs.Basics.{pick}
use Rattle.theory.specs.Cheapest.{cheapest}
use Rattle.theory.specs.Full.{lowest, highest, row_price, row_amount, row_cost}
use Rattle.full_rows.specs.Row.{max_cost, stage_in, choice_of, best_of, Small, Open, After}
use Rattle.full_rows.specs.Laws.{InReach, Limited, amount_between, price_small}
use Rattle.full_rows.specs.declared.Stage.{Stage}
use Rattle.full_rows.specs.declared.Choice.{Choice}

-- the scan from lo to hi before it comes to the amount v
pub record Scanned (s : Stage) (row : ℕ → ℕ) (X lo hi v : ℕ) (best : Choice) : Type 0 where
  pub begun : lo < v
  pub inside : v ≤ hi + 1
  pub is : best ≡ choice_of s row X (lo + cheapest (λ k. row_price (stage_in s) row X (lo + k)) (v - suc lo))

module _ {s : Stage} {row : ℕ → ℕ} {X lo hi v : ℕ} {best : Choice} (c : Scanned s row X lo hi v best) where
  pub scanned_more : (next r : Choice) → v ≤ hi → next ≡ choice_of s row X v → r ≡ pick (dec_lt next.price best.price) next best
      → Scanned s row X lo hi (v + 1) r
  scanned_more next r l f g = go (v - suc lo) (omega (arith, c.begun)) c.is
    where
      price : ℕ → ℕ
      price k = row_price (stage_in s) row X (lo + k)

      picked : (j : ℕ) (d : Dec (price (suc j) < price (cheapest price j)))
          → pick d (choice_of s row X (lo + suc j)) (choice_of s row X (lo + cheapest price j))
          ≡ choice_of s row X (lo + pick d (suc j) (cheapest price j))
      picked j (yes _) = refl
      picked j (no _) = refl

      go : (j : ℕ) → v ≡ lo + suc j → best ≡ choice_of s row X (lo + cheapest price j) → Scanned s row X lo hi (v + 1) r
      go j p e =
          let q : v + 1 - suc lo ≡ suc j = omega arith in
          record { begun = omega arith; inside = omega arith; is = g ∙ rw (q, e, f, p) (picked j (dec_lt (price (suc j)) (price (cheapest price j)))) }

  pub scanned_all : lo ≡ lowest (stage_in s) X → hi ≡ highest (stage_in s) X → hi < v → best ≡ best_of s row X
  scanned_all e f l =
      let q : v - suc lo ≡ highest (stage_in s) X - lowest (stage_in s) X = omega (arith, c.inside) in
      rw (q, e) at c.is

module _ {s : Stage} {costs : List ℕ} {X : ℕ} (o : Open s costs) (a : After s X) where
  reached : InReach (stage_in s) X
  reached =
      let b = o.bounded in
      record { some = b.some; rises = omega (arith, b.rises, a.0); near = omega (arith, b.reached, a.1) }

  limited : Limited (stage_in s) X
  limited =
      let b = o.bounded in
      record { setup = b.setup; unit = b.unit; holding = b.holding; total = omega (arith, b.total, a.1) }

  pub best_small : {b : Choice} → b ≡ best_of s (at costs) X → Small s b X
  best_small e =
      rw e
      (record {
        price = price_small (stage_in s) X reached (at costs) max_cost (λ Y h. o.cheap Y h.0 h.1) limited;
        amount = omega (arith, (amount_between (stage_in s) X reached (at costs)).1, limited.total);
        begun = a.0;
        total = limited.total;
      })

-- the row step before it comes to the total X
pub record Stepping (s : Stage) (before after choices after' choices' : List ℕ) (X : ℕ) : Type 0 where
  pub begun : s.floor ≤ X
  pub cost_cells : length after' ≡ length after
  pub choice_cells : length choices' ≡ length choices
  pub cost : (Y : ℕ) → Y < X → After s Y → at after' Y ≡ row_cost (stage_in s) (at before) Y
  pub amount : (Y : ℕ) → Y < X → After s Y → at choices' Y ≡ row_amount (stage_in s) (at before) Y
