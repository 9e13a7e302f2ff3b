-- What the loop that fills the table's rows keeps.
-- Assumes nothing.
use Rattle.std.proofs.Common.{◌≡◌, refl, sym, ap, ◌∙◌, List, ⊎_elim, ℕ, zero, suc, ◌+◌, ◌*◌, ◌≤◌, ◌<◌, eq-or-lt_of_le, suc-mul, mul-le-mul_right}
use Rattle.std.proofs.Common.{◌-◌, add-one, arith, length}
use Rattle.std.proofs.Common.{set, length-set}
use Rattle.std.proofs.Common.{length-take-le, length-append, length-drop, get_or-set_same}
use borrow.Rule.Slice.PartMut.{put_mid}
use Rattle.day.specs.Sums.{at, below}
use Rattle.theory.specs.Reachable.{high}
use Rattle.theory.specs.Full.{stage_of, cost_row, cost_row-zero, cost_row_next, amount}
use Rattle.theory.specs.Problem.{Problem, periods, demand_to, total, model_within, Bounded}
use Rattle.theory.specs.Parts.{front_at, part_at}
use Rattle.full_rows.specs.declared.Stage.{Stage}
use Rattle.full_rows.specs.Row.{max_making, max_product, RowReady, Stepped}
use Rattle.full_rows.specs.Laws.{Limited, amount_ext, cost_ext, cost_small}
use Rattle.full_table.specs.Right.{under, reached}
use Rattle.full_table.specs.Table.{stage_at, Staged, Reachable, cell_at, Fillable}

-- i rows are filled; `before` is the last of them
pub record TableFilling (p : Problem) (U : List ℕ) (T : ℕ) (before after choices : List ℕ) (low most i : ℕ) : Type 0 where
  pub inside : i ≤ periods p
  pub is_low : low ≡ demand_to p i
  pub is_high : most ≡ high (model_within p U) i
  pub row : (X : ℕ) → Reachable p U i X → at before X ≡ cost_row (model_within p U) i X
  pub amounts : (k : ℕ) → k < i → (X : ℕ) → Reachable p U (suc k) X → cell_at choices T k X ≡ amount (model_within p U) k X
  pub before_cells : T + 1 ≤ length before
  pub after_cells : T + 1 ≤ length after
  pub choice_cells : periods p * (T + 1) ≤ length choices

put_length : (a : ℕ) (l part : List ℕ) → a ≤ length l → length part ≡ length l - a → length (put_mid a (length l - a) l part) ≡ length l
put_length a l part inside size =
    simp (length-append, length-drop) (omega (arith, length-take-le a l inside))

module _ {p : Problem} {U costs choices : List ℕ} {T : ℕ} (b : Bounded p) (f : Fillable p U costs choices T) where
  limited : (i X : ℕ) → i < periods p → Reachable p U (suc i) X → Limited (stage_of (model_within p U) i) X
  limited i X l h =
      let x = under f (suc i) X l h in
      record { setup = b.setup i l; unit = b.unit i l; holding = b.holding i l; total = omega (arith, f.is, b.small) }

  -- a total of i periods costs at most i times what a period can
  row_small : (i X : ℕ) → i ≤ periods p → Reachable p U i X → cost_row (model_within p U) i X ≤ i * (max_making + max_product)
  row_small zero X l h = omega (arith, cost_row-zero (model_within p U) X)
  row_small (suc i) X l h =
      omega (
        arith,
        cost_row_next (model_within p U) i X,
        cost_small (stage_of (model_within p U) i) X (reached f i X l h) (cost_row (model_within p U) i) (i * (max_making + max_product))
            (λ Y h. row_small i Y (omega arith) (record { low = h.0; high = h.1 })) (limited i X l h),
      )

  pub filling_none : (before after : List ℕ) → T + 1 ≤ length before → T + 1 ≤ length after
      → TableFilling p U T (set before 0 0) after choices 0 0 0
  filling_none before after b a =
      record {
        inside = omega arith;
        is_low = refl;
        is_high = refl;
        row = λ X h.
            let e : X ≡ 0 = omega (arith, h.high) in
            rw e (get_or-set_same before 0 0 0 (omega arith) ∙ sym (cost_row-zero (model_within p U) 0));
        amounts = λ k l X h. absurd (omega arith);
        before_cells = omega (arith, length-set before 0 0);
        after_cells = a;
        choice_cells = f.choice_cells;
      }

  module _ {before after choices' : List ℕ} {low most i : ℕ} (c : TableFilling p U T before after choices' low most i) (l : i < periods p) where
    small : (low ≤ T) × (most ≤ T)
    small =
        let m = f.covered i (omega arith) in
        let u = under f i (high (model_within p U) i) (omega arith) (record { low = m; high = omega arith }) in
        (omega (arith, c.is_low), omega (arith, c.is_high))

    pub filling_staged : Staged p i low most
    filling_staged =
        record {
          inside = l;
          low_small = omega (arith, small.0, f.is, b.small);
          high_small = omega (arith, small.1, f.is, b.small);
        }

    -- the period's row of choices, and where it begins
    pub row_cells : (i * (T + 1) ≤ length choices') × (T + 1 ≤ length choices' - i * (T + 1))
    row_cells =
        let m = suc-mul i (T + 1) in
        let n = mul-le-mul_right (T + 1) l in
        (omega (arith, c.choice_cells), omega (arith, c.choice_cells))

    -- while more than one total is to be filled, the choices of another period follow
    next_row : demand_to p (suc i) < total p → 2 * (T + 1) ≤ length choices' - i * (T + 1)
    next_row h =
        ⊎_elim
        (λ (e : suc i ≡ periods p). let q = ap (demand_to p) e in absurd (omega arith))
        (λ g. omega (arith, suc-mul i (T + 1), suc-mul (suc i) (T + 1), mul-le-mul_right (T + 1) g, c.choice_cells))
        (eq-or-lt_of_le l)

    module _ {s : Stage} (e : s ≡ stage_at p U i low most) where
      stage_is : s ≡ stage_at p U i (demand_to p i) (high (model_within p U) i)
      stage_is = let a = c.is_low in let b = c.is_high in e ∙ rw (a, b) refl

      pub filling_ready : (part : List ℕ) → length part ≡ length choices' - i * (T + 1) → RowReady s before after part
      filling_ready part q =
          let w = b in
          let rows = mul-le-mul_right (max_making + max_product) w.few in
          let rows' = mul-le-mul_right (max_making + max_product) c.inside in
          rw stage_is
          (record {
            opened = record {
              bounded = record {
                setup = w.setup i l;
                unit = w.unit i l;
                holding = w.holding i l;
                some = f.covered i (omega arith);
                rises = omega arith;
                reached = omega arith;
                total = omega (arith, f.under i l, f.is, w.small);
              };
              inside = omega (arith, small.1, c.is_high, c.before_cells);
              cheap = λ Y a b.
                  let h : Reachable p U i Y = record { low = a; high = b } in
                  omega (arith, c.row Y h, row_small i Y c.inside h, rows, rows');
            };
            cost_cells = omega (arith, f.under i l, c.after_cells);
            choice_cells = omega (arith, f.under i l, row_cells.1);
            scratch = λ h. omega (arith, next_row (omega (arith, f.under i l, f.is)), f.under i l);
          })

      pub filling_more : {after' : List ℕ} (part : List ℕ) → Stepped s before after' part
          → length after' ≡ length after → length part ≡ length choices' - i * (T + 1)
          → TableFilling p U T after' before (put_mid (i * (T + 1)) (length choices' - i * (T + 1)) choices' part) s.floor s.top (i + 1)
      filling_more {after'} part stepped size size' =
          let t = rw stage_is at stepped in
          let w : ℕ = i * (T + 1) in
          let same : (Y : ℕ) → (demand_to p i ≤ Y) × (Y ≤ high (model_within p U) i) → at before Y ≡ cost_row (model_within p U) i Y =
          (λ Y h. c.row Y (record { low = h.0; high = h.1 })) in
          rw (stage_is, add-one i)
          (record {
            inside = l;
            is_low = refl;
            is_high = refl;
            row = λ X h.
                t.cost X (h.low, h.high)
                ∙ (cost_ext (stage_of (model_within p U) i) X (reached f i X l h) (at before) (cost_row (model_within p U) i) same
                ∙ sym (cost_row_next (model_within p U) i X));
            amounts = below (λ (k : ℕ). (X : ℕ) → Reachable p U (suc k) X
                → cell_at (put_mid w (length choices' - w) choices' part) T k X ≡ amount (model_within p U) k X) i
                (λ k g X h.
                let n = suc-mul k (T + 1) in
                let b = mul-le-mul_right (T + 1) g in
                front_at w (length choices' - w) choices' part row_cells.0 (k * (T + 1) + X) (omega (arith, under f (suc k) X (omega arith) h))
                ∙ c.amounts k g X h)
                (λ X h.
                part_at w (length choices' - w) choices' part row_cells.0 X (omega (arith, under f (suc i) X l h, row_cells.1))
                ∙ (t.amount X (h.low, h.high)
                ∙ amount_ext (stage_of (model_within p U) i) X (reached f i X l h) (at before) (cost_row (model_within p U) i) same));
            before_cells = omega (arith, c.after_cells);
            after_cells = c.before_cells;
            choice_cells = omega (arith, c.choice_cells, put_length w choices' part row_cells.0 size');
          })
