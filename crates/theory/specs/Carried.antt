-- Why the search for a row's last lot can end early: what an earlier period makes for l and after costs for each unit at least what the cheapest
-- one carried into l costs (`carried_to`), and its upkeep from l on.
-- Main definition: `carried_to`. Main statement: `before_dear`. Assumes nothing.
use Rattle.std.specs.Prelude.{◌≡◌, ℕ, zero, suc, ◌+◌, ◌-◌, ◌*◌, ◌≤◌, ◌<◌, min}
use Rattle.std.proofs.Common.{ap, ◌∙◌, ⊎_elim, eq-or-lt_of_le, le_of_suc-le-suc, mul-add, add-mul, mul-le-mul, arith}
use Rattle.day.specs.Sums.{sum_to, sum_grows}
use Rattle.day.specs.Day.{max_rate}
use Rattle.day.specs.Plan.{making}
use Rattle.theory.specs.Model.{Model, Rising}
use Rattle.theory.specs.Cut.{floor_grows}
use Rattle.theory.specs.Uncapped.{held, price}

-- the least that a unit costs which is made in one of the first l periods and held from there to their end; for l = 0 there is none, and the
-- limit of a unit cost stands there
abbrev pub carried_to : (unit holding : ℕ → ℕ) → ℕ → ℕ
carried_to unit holding zero = max_rate
carried_to unit holding (suc l) = min (carried_to unit holding l) (unit l) + holding l

-- no unit that is made before l is carried in for less
pub carried_least : (unit holding : ℕ → ℕ) (l j : ℕ) → j < l → carried_to unit holding l ≤ unit j + (sum_to holding l - sum_to holding j)
carried_least unit holding zero j lt = absurd (omega arith)
carried_least unit holding (suc l) j lt =
    ⊎_elim
    (λ (e : j ≡ l). rw e (omega arith))
    (λ h. omega (arith, carried_least unit holding l j h, sum_grows holding j l (omega arith)))
    (eq-or-lt_of_le (le_of_suc-le-suc lt))

-- y units more cost at least their unit cost
making_more : (b p x y z : ℕ) → z ≡ x + y → making b p x + p * y ≤ making b p z
making_more b p zero y zero e = let none : y ≡ 0 = omega arith in omega (arith, ap (λ (v : ℕ). p * v) none)
making_more b p zero y (suc z) e = let all : y ≡ suc z = omega arith in omega (arith, ap (λ (v : ℕ). p * v) all)
making_more b p (suc x) y zero e = absurd (omega arith)
making_more b p (suc x) y (suc z) e = omega (arith, ap (λ (v : ℕ). p * v) e, mul-add p (suc x) y)

-- Of what is demanded by m, what is not demanded by l is held through all of the first l periods.
module _ (M : Model) (rising : Rising M) (l m : ℕ) (le : l ≤ m) where
  abbrev more : ℕ
  more = M.floor m - M.floor l

  held_more : (i : ℕ) → i ≤ l → held M m i ≡ held M l i + sum_to M.holding i * more
  held_more zero h = omega arith
  held_more (suc i) h =
      omega (arith, held_more i (omega arith), each, add-mul (sum_to M.holding i) (M.holding i) more)
    where
      amount : M.floor m - M.floor (suc i) ≡ (M.floor l - M.floor (suc i)) + more
      amount = omega (arith, floor_grows M rising (suc i) l h, floor_grows M rising l m le)

      each : M.holding i * (M.floor m - M.floor (suc i)) ≡ M.holding i * (M.floor l - M.floor (suc i)) + M.holding i * more
      each = ap (λ (v : ℕ). M.holding i * v) amount ∙ mul-add (M.holding i) (M.floor l - M.floor (suc i)) more

  -- A lot in an earlier period j that serves all to m costs no less than to come to l, w for each unit of the rest, and to hold these from l on.
  pub before_dear : (costs : ℕ → ℕ) (j w : ℕ) → j < l → costs l ≤ price M costs l j
      → w ≤ M.unit j + (sum_to M.holding l - sum_to M.holding j)
      → costs l + w * more + (held M m m - held M m l) ≤ price M costs m j
  before_dear costs j w lt least low =
      omega (
        arith,
        least,
        making_more (M.setup j) (M.unit j) (M.floor l - M.floor j) more (M.floor m - M.floor j) amount,
        each,
        add-mul (M.unit j) through more,
        ap (λ (v : ℕ). v * more) sum,
        add-mul (sum_to M.holding j) through more,
        held_more l (omega arith),
        held_more j (omega arith),
        sum_grows (λ k. M.holding k * (M.floor l - M.floor (suc k))) j l (omega arith),
        sum_grows (λ k. M.holding k * (M.floor m - M.floor (suc k))) l m le,
      )
    where
      through : ℕ
      through = sum_to M.holding l - sum_to M.holding j

      sum : sum_to M.holding l ≡ sum_to M.holding j + through
      sum = omega (arith, sum_grows M.holding j l (omega arith))

      each : w * more ≤ (M.unit j + through) * more
      each = mul-le-mul low (omega arith)

      amount : M.floor m - M.floor j ≡ (M.floor l - M.floor j) + more
      amount = omega (arith, floor_grows M rising j l (omega arith), floor_grows M rising l m le)
