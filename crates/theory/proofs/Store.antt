-- The store limit of a day, over specs/Store: the test 7 on sums, and days whose stores can't bind.
-- Main statements: `keeps_iff`, on a day that 14 lets pass the test decides whether some amounts
-- keep the conditions through a period; `passes_loose`, on a day whose stores can't bind it compares with C alone. Assumes nothing.
use Rattle.std.specs.Prelude.{◌≡◌, ◌↔◌, ℕ, zero, suc, ◌+◌, ◌-◌, ◌≤◌, ◌<◌, min}
use Rattle.std.proofs.Common.{ap, arith}
use Rattle.std.proofs.Math.Decide.{dec_lt}
use Rattle.day.specs.Sums.{at, sum_to, at-list_of}
use Rattle.day.specs.Day.{Day, periods, demand_to, capacity_to, total, net_to, net_before, net_end}
use Rattle.day.specs.Plan.{KeepsTo}
use Rattle.day.specs.Refusals.{most_to}
use Rattle.checks.specs.Passed.{Passes}
use Rattle.theory.specs.Model.{Model, FeasibleTo}
use Rattle.theory.specs.Reachable.{high, Covered, interval}
use Rattle.theory.specs.Problem.{model_rising, Supplied}
use Rattle.theory.specs.Net.{problem_of, Fits, net_below, net_covers, floor_is, net_supplied}
use Rattle.theory.specs.Store.{ceiling_at, ceilings_of, store_model, Loose}

-- one period more, cut off at T
cut_off : (h m c T U : ℕ) → h ≡ min m T → min (h + c) (min T U) ≡ min (min (m + c) U) T
cut_off h m c T U e = omega arith

module _ (d : Day) where
  abbrev M : Model
  M = store_model d

  abbrev n : ℕ
  n = periods d

  pub ceiling_is : (k : ℕ) → k < n → at (ceilings_of d) k ≡ ceiling_at d k
  ceiling_is = at-list_of (ceiling_at d) n

  -- what can be reached, cut off at T
  most_is : (i : ℕ) → i ≤ n → high M i ≡ min (most_to d i) (total d)
  most_is zero l = omega arith
  most_is (suc k) l =
      let e = ceiling_is k l in
      rw e (cut_off (high M k) (most_to d k) (at d.capacity k) (total d) (demand_to d (suc k) + at d.store k - d.opening) (most_is k (omega arith)))

  -- amounts that keep the conditions make no more than the most, and no less than N
  module _ (i : ℕ) (x : ℕ → ℕ) (le : i ≤ n) (f : KeepsTo d i x) where
    below_most : (j : ℕ) → j ≤ i → sum_to x j ≤ most_to d j
    below_most zero l = omega arith
    below_most (suc j) l = omega (arith, below_most j (omega arith), f.within j l, f.stored j l)

    pub above_net : (k : ℕ) → k < i → net_to d (suc k) ≤ sum_to x (suc k)
    above_net k l = go (dec_lt (suc k) n)
      where
        go : Dec (suc k < n) → net_to d (suc k) ≤ sum_to x (suc k)
        go (yes h) = omega (arith, net_before d (suc k) h, f.served k l)
        go (no h) =
            let e : suc k ≡ n = omega arith in
            let same : i ≡ suc k = omega arith in
            omega (arith, ap (net_to d) e, ap (sum_to x) same, net_end d, f.ends (omega arith))

    keeps_passes : (k : ℕ) → k < i → Passes d k
    keeps_passes k l = record { room = omega (arith, f.stored k l); reach = omega (arith, below_most (suc k) l, above_net k l) }

  module _ (fits : Fits d) where
    floor_here : (i : ℕ) → i ≤ n → M.floor i ≡ net_to d i
    floor_here = floor_is d fits.nonempty

    -- where the test passes, the floor is reached
    pub passes_covered : (i : ℕ) → i ≤ n → ((k : ℕ) → k < i → Passes d k) → Covered M i
    passes_covered i le p zero l = omega arith
    passes_covered i le p (suc j) l =
        omega (arith, (p j l).reach, most_is (suc j) (omega arith), floor_here (suc j) (omega arith), net_below d (suc j) (omega arith))

    passes_keeps : (i : ℕ) → i ≤ n → ((k : ℕ) → k < i → Passes d k) → (x : ℕ → ℕ) × KeepsTo d i x
    passes_keeps i le p =
        let c = passes_covered i le p in
        let w = interval M (model_rising (problem_of d)) i c (M.floor i) (omega arith) (c i (omega arith)) in
        (w.0, keeps w.0 w.1)
      where
        keeps : (x : ℕ → ℕ) → FeasibleTo M i (M.floor i) x → KeepsTo d i x
        keeps x f =
            record {
              served = λ k l. omega (arith, floor_here (suc k) (omega arith), f.served k l, net_covers d (suc k) (omega arith));
              ends = λ e. omega (arith, f.total, ap M.floor e, floor_here n (omega arith), net_end d, fits.used);
              within = f.within;
              stored = λ k l. omega (arith, ceiling_is k (omega arith), f.under k l, (p k l).room);
            }

    -- Some amounts for periods 1 to i keep the conditions through i just where the test passes in each of them.
    pub keeps_iff : (i : ℕ) → i ≤ n → ((x : ℕ → ℕ) × KeepsTo d i x) ↔ ((k : ℕ) → k < i → Passes d k)
    keeps_iff i le = (λ w. keeps_passes i w.0 le w.1, passes_keeps i le)

-- and under a limit that is not below T
cut_open : (m C c T U : ℕ) → min m T ≡ min C T → T ≤ U → min (min (m + c) U) T ≡ min (C + c) T
cut_open m C c T U e l = omega arith

-- A day whose stores can't bind.
module _ (d : Day) (loose : Loose d) where
  most_loose : (i : ℕ) → i ≤ periods d → min (most_to d i) (total d) ≡ min (capacity_to d i) (total d)
  most_loose zero l = omega arith
  most_loose (suc k) l =
      cut_open (most_to d k) (capacity_to d k) (at d.capacity k) (total d) (demand_to d (suc k) + at d.store k - d.opening)
      (most_loose k (omega arith)) (omega (arith, loose.takes k l))

  -- The test compares what must have been made with C.
  pub passes_loose : (k : ℕ) → k < periods d → Passes d k ↔ (net_to d (suc k) ≤ capacity_to d (suc k))
  passes_loose k l = (
    λ p. omega (arith, p.reach, most_loose (suc k) l, net_below d (suc k) l),
    λ h.
        record {
          room = omega (arith, loose.takes k l, loose.fits.used);
          reach = omega (arith, h, most_loose (suc k) l, net_below d (suc k) l);
        },
  )

  pub loose_supplied : ((k : ℕ) → k < periods d → Passes d k) → Supplied (problem_of d)
  loose_supplied p = net_supplied d loose.fits.nonempty (λ k l. (passes_loose k l).0 (p k l))
