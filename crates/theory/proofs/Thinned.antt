-- A plan of a day, thinned from the end for an easier day: each period makes what it made, or less if less is wanted from then on.
-- Main statement: `thinned`. Assumes nothing.
use Rattle.std.specs.Prelude.{◌≡◌, refl}
use Rattle.std.proofs.Math.Path.{ap}
use Rattle.std.proofs.Common.{◌∙◌, mul-le-mul}
use Prim.Native.Nat.{ℕ, zero, suc, ◌+◌, ◌-◌, ◌≤◌, ◌<◌}
use native.Mathlib.Omega.{arith}
use Rattle.day.specs.Sums.{at, sum_to}
use Rattle.day.specs.Day.{Day, periods, demand_to}
use Rattle.day.specs.Plan.{making, inventory, cost_at, cost, Feasible}
use Rattle.day.specs.Ranges.{Easier}
use Rattle.theory.specs.Compare.{sum_le}

-- making costs no more where nothing of it is more
making_le : (b b' p p' x x' : ℕ) → b ≤ b' → p ≤ p' → x ≤ x' → making b p x ≤ making b' p' x'
making_le b b' p p' zero x' hb hp hx = omega arith
making_le b b' p p' (suc x) zero hb hp hx = absurd (omega arith)
making_le b b' p p' (suc x) (suc x') hb hp hx = omega (arith, mul-le-mul hp hx)

-- Two days without opening charge, e the easier, and a plan x of the harder.
module _ (e d : Day) (easy : Easier e d) (empty : d.opening ≡ 0) (empty' : e.opening ≡ 0) (x : ℕ → ℕ) (f : Feasible d x) where
  abbrev n : ℕ
  n = periods d

  -- the charge that e must have m periods before the end, where it makes no more than x from then on
  abbrev back : ℕ → ℕ
  back zero = e.closing
  back (suc m) = back m + at e.demand (n - suc m) - x (n - suc m)

  -- and so after i periods
  left : ℕ → ℕ
  left i = back (n - i)

  left_step : (k : ℕ) → k < n → left k ≡ left (suc k) + at e.demand k - x k
  unfolding left
  left_step k l =
      let q : n - k ≡ suc (n - suc k) = omega arith in
      let r : n - suc (n - suc k) ≡ k = omega arith in
      ap back q ∙ ap (λ (i : ℕ). back (n - suc k) + at e.demand i - x i) r

  left_end : left n ≡ e.closing
  unfolding left
  left_end = let q : n - n ≡ 0 = omega arith in ap back q

  -- x meets the demand of d
  met : (i : ℕ) → i ≤ n → demand_to d i ≤ sum_to x i
  met zero l = omega arith
  met (suc i) l = omega (arith, f.served i l)

  back_le : (m : ℕ) → m ≤ n → back m + demand_to d (n - m) ≤ sum_to x (n - m)
  back_le zero l = let q : n - 0 ≡ n = omega arith in rw q (omega (arith, f.ends refl, easy.closing))
  back_le (suc m) l =
      let k : ℕ = n - suc m in
      let q : n - m ≡ suc k = omega arith in
      let b : back m + demand_to d (suc k) ≤ sum_to x (suc k) = rw q at (back_le m (omega arith)) in
      omega (arith, b, easy.demand k (omega arith), met k (omega arith))

  -- it has no more than d
  left_le : (i : ℕ) → i ≤ n → left i + demand_to d i ≤ sum_to x i
  unfolding left
  left_le i l = let q : n - (n - i) ≡ i = omega arith in rw q at (back_le (n - i) (omega arith))

  -- the thinned plan
  thin : ℕ → ℕ
  thin k = left (suc k) + at e.demand k - left k

  thin_le : (k : ℕ) → k < n → thin k ≤ x k
  unfolding thin
  thin_le k l = omega (arith, left_step k l)

  thin_sum : (i : ℕ) → i ≤ n → sum_to thin i ≡ demand_to e i + left i
  unfolding thin
  thin_sum zero l = omega (arith, left_le 0 l)
  thin_sum (suc i) l = omega (arith, thin_sum i (omega arith), left_step i l)

  -- its charge after i periods
  thin_left : (i : ℕ) → i ≤ n → inventory e thin i ≡ left i
  thin_left i l = omega (arith, thin_sum i l, empty')

  charge_le : (i : ℕ) → i ≤ n → inventory e thin i ≤ inventory d x i
  charge_le i l = omega (arith, thin_left i l, left_le i l)

  thin_feasible : Feasible e thin
  thin_feasible =
      let size = easy.size in
      record {
        served = λ k l. omega (arith, thin_sum (suc k) (omega arith));
        ends = λ _. rw size (omega (arith, thin_sum n (omega arith), left_end, empty'));
        within = λ k l. let h : k < n = omega arith in omega (arith, thin_le k h, f.within k h, easy.capacity k h);
        stored = λ k l. let h : k < n = omega arith in omega (arith, charge_le (suc k) h, f.stored k h, easy.store k h);
      }

  thin_cost_at : (k : ℕ) → k < n → cost_at e thin k ≤ cost_at d x k
  thin_cost_at k l =
      let held : inventory e thin k + inventory e thin (suc k) ≤ inventory d x k + inventory d x (suc k) =
      omega (arith, charge_le k (omega arith), charge_le (suc k) l) in
      omega (
        arith,
        making_le (at e.setup k) (at d.setup k) (at e.unit k) (at d.unit k) (thin k) (x k)
            (easy.setup k l) (easy.unit k l) (thin_le k l),
        mul-le-mul (easy.holding k l) held,
      )

  thin_cost : cost e thin ≤ cost d x
  thin_cost = rw easy.size (sum_le (cost_at e thin) (cost_at d x) n thin_cost_at)

  -- it keeps the rules of e, and costs no more
  pub thinned : (y : ℕ → ℕ) × Feasible e y × (cost e y ≤ cost d x)
  thinned = (thin, thin_feasible, thin_cost)
