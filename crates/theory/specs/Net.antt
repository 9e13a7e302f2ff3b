-- The days as problems: net needs, which the opening charge lowers and the closing charge raises; rates, by which what is
-- left after a period is paid for in that period and in the next.
-- Main definitions: `net_need`, `rate_of`, `problem_of`, `Fits`. Main statements: `floor_is`, `total_is`, the net needs sum to what must have been
-- made; `bounded`, a day within the limits gives what the loops rely on; `problem_is`, the two tables as they are filled in are the problem's.
-- Assumes nothing.
use Rattle.std.specs.Prelude.{◌≡◌, List, ℕ, zero, suc, ◌+◌, ◌-◌, ◌≤◌, ◌<◌, length, take, replicate}
use Rattle.std.proofs.Common.{sym, ap, ap₂, ◌∙◌, arith, length-take-le}
use Rattle.std.proofs.Math.Decide.{dec_lt}
use Rattle.std.proofs.lemmas.List.{length-replicate}
use Rattle.std.proofs.Math.ListN.{get_or-eq_default}
use Rattle.day.specs.Sums.{at, sum_to, sum_ext, list_of, at-list_of, length-list_of}
use Rattle.day.specs.Day.{Day, periods, demand_to, capacity_to, required, total, net_to, net_before, net_end}
use Rattle.day.specs.Day.{max_periods, max_capacity, max_half_rate, max_total}
use Rattle.checks.specs.Passed.{DayLimits}
use Rattle.theory.specs.Problem.{Problem, problem_with, Bounded, Supplied}
use Rattle.theory.specs.Problem as Problem

-- what a period adds to what must have been made
abbrev pub net_need : Day → ℕ → ℕ
net_need d k = net_to d (suc k) - net_to d k

abbrev pub net_needs : Day → List ℕ
net_needs d = list_of (net_need d) (periods d)

-- h_k + h_(k+1): what is left after a period is paid for in it, and in the next as the charge before that
abbrev pub rate_of : List ℕ → ℕ → ℕ
rate_of holding k = at holding k + at holding (suc k)

abbrev pub rates_of : List ℕ → List ℕ
rates_of holding = list_of (rate_of holding) (length holding)

-- a day's problem, by two tables in place of its demands and its upkeep
abbrev pub problem_by : (needs rates : List ℕ) → Day → Problem
problem_by needs rates d = problem_with needs d.capacity d.setup d.unit rates

-- what the loops run on, for a day
abbrev pub problem_of : Day → Problem
problem_of d = problem_by (net_needs d) (rates_of d.holding) d

-- the two tables as they are filled in
pub record NetTables (d : Day) (net rate : List ℕ) : Type 0 where
  pub needs : net ≡ net_needs d
  pub rates : rate ≡ rates_of d.holding

-- what tests 1 and 14 leave: there is a period, and A ≤ R + Z
pub record Fits (d : Day) : Type 0 where
  pub nonempty : 0 < periods d
  pub used : d.opening ≤ required d

-- what the net needs ask to be of 16 bits: there is a period, there are 96 at most, and R + Z is no more than a capacity of 16 bits can be
pub record NetFits (d : Day) : Type 0 where
  pub nonempty : 0 < periods d
  pub few : periods d ≤ max_periods
  pub small : required d ≤ max_capacity

-- what the rates ask to be of 32 bits, and within the loops' limit: no upkeep is above its own
abbrev pub HalfRates : List ℕ → Type 0
HalfRates holding = (k : ℕ) → at holding k ≤ max_half_rate

limits_net : {limit : ℕ} {d : Day} → limit ≤ max_capacity → DayLimits limit d → NetFits d
limits_net low g = record { nonempty = g.limits.nonempty; few = g.limits.few; small = omega (arith, g.small) }

pub limits_fit : {limit : ℕ} {d : Day} → DayLimits limit d → Fits d
limits_fit g = record { nonempty = g.limits.nonempty; used = g.used }

-- past a table's end the entries are 0, and so are the rates
pub rate_is : (holding : List ℕ) (k : ℕ) → at (rates_of holding) k ≡ rate_of holding k
rate_is holding k = go (dec_lt k (length holding))
  where
    go : Dec (k < length holding) → at (rates_of holding) k ≡ rate_of holding k
    go (yes h) = at-list_of (rate_of holding) (length holding) k h
    go (no h) =
        omega (
          arith,
          get_or-eq_default (rates_of holding) 0 {n = k} (omega (arith, length-list_of (rate_of holding) (length holding))),
          get_or-eq_default holding 0 {n = k} (omega arith),
          get_or-eq_default holding 0 {n = suc k} (omega arith),
        )

module _ (d : Day) where
  abbrev n : ℕ
  n = periods d

  pub periods_is : Problem.periods (problem_of d) ≡ n
  periods_is = length-list_of (net_need d) n

  -- what must have been made never falls, and ends with T
  pub net_rises : (i : ℕ) → i < n → net_to d i ≤ net_to d (suc i)
  net_rises i l = go (dec_lt (suc i) n)
    where
      go : Dec (suc i < n) → net_to d i ≤ net_to d (suc i)
      go (yes h) = omega (arith, net_before d i l, net_before d (suc i) h)
      go (no h) =
          let e : suc i ≡ n = omega arith in
          omega (arith, net_before d i l, ap (net_to d) e, ap (demand_to d) e, net_end d)

  net_grows : (i j : ℕ) → i ≤ j → j ≤ n → net_to d i ≤ net_to d j
  net_grows i zero h l = let e : i ≡ 0 = omega arith in rw e (omega arith)
  net_grows i (suc j) h l = go (dec_lt j i) (λ g. net_grows i j g (omega arith))
    where
      go : Dec (j < i) → (i ≤ j → net_to d i ≤ net_to d j) → net_to d i ≤ net_to d (suc j)
      go (yes g) rec = let e : i ≡ suc j = omega arith in rw e (omega arith)
      go (no g) rec = omega (arith, rec (omega arith), net_rises j l)

  pub net_below : (i : ℕ) → i ≤ n → net_to d i ≤ total d
  net_below i l = omega (arith, net_grows i n l (omega arith), net_end d)

  -- with A it covers R
  pub net_covers : (i : ℕ) → i ≤ n → demand_to d i ≤ d.opening + net_to d i
  net_covers i l = go (dec_lt i n)
    where
      go : Dec (i < n) → demand_to d i ≤ d.opening + net_to d i
      go (yes h) = omega (arith, net_before d i h)
      go (no h) = let e : i ≡ n = omega arith in omega (arith, ap (net_to d) e, ap (demand_to d) e, net_end d)

  module _ (pos : 0 < n) where
    pub net_zero : net_to d 0 ≡ 0
    net_zero = omega (arith, net_before d 0 pos)

    net_sums : (i : ℕ) → i ≤ n → sum_to (net_need d) i ≡ net_to d i
    net_sums zero l = omega (arith, net_zero)
    net_sums (suc i) l = omega (arith, net_sums i (omega arith), net_rises i l)

    pub floor_is : (i : ℕ) → i ≤ n → Problem.demand_to (problem_of d) i ≡ net_to d i
    floor_is i l = sum_ext (at (net_needs d)) (net_need d) i (λ k h. at-list_of (net_need d) n k (omega arith)) ∙ net_sums i l

    pub total_is : Problem.total (problem_of d) ≡ total d
    total_is = ap (Problem.demand_to (problem_of d)) periods_is ∙ floor_is n (omega arith) ∙ net_end d

    -- where C is nowhere below what must have been made, it is nowhere below the problem's needs
    pub net_supplied : ((k : ℕ) → k < n → net_to d (suc k) ≤ capacity_to d (suc k)) → Supplied (problem_of d)
    net_supplied s k l = let h : k < n = omega (arith, periods_is) in omega (arith, floor_is (suc k) h, s k h)

    net_limit : (top : ℕ) → required d ≤ top → (k : ℕ) → k < n → at (net_needs d) k ≤ top
    net_limit top h k l = omega (arith, at-list_of (net_need d) n k l, net_below (suc k) l)

  limits_half : {limit : ℕ} → DayLimits limit d → HalfRates d.holding
  limits_half g k = go (dec_lt k n)
    where
      go : Dec (k < n) → at d.holding k ≤ max_half_rate
      go (yes h) = (g.limits.within k h).holding
      go (no h) = omega (arith, get_or-eq_default d.holding 0 {n = k} (omega (arith, g.limits.lengths.holding)))

  -- what filling the two tables asks, where each is the front of n cells of 96; a part from 0 to n has n - 0
  pub limits_fill : {limit : ℕ} → limit ≤ max_capacity → DayLimits limit d
      → let front : List ℕ = take (n - 0) (replicate max_periods 0) in
      (length front ≡ length d.demand)
      × ((length front ≡ length d.holding) × (NetFits d × HalfRates d.holding))
  limits_fill low g =
      let l = g.limits in
      let size = length-take-le (n - 0) (replicate {A = ℕ} max_periods 0) (omega (arith, l.few, length-replicate {A = ℕ} max_periods 0)) in
      (omega (arith, size), (omega (arith, size, l.lengths.holding), (limits_net low g, limits_half g)))

  -- and what filling the ceilings asks
  pub limits_ceilings : DayLimits max_total d
      → (length (take (n - 0) (replicate {A = ℕ} max_periods 0)) ≡ length d.demand)
      × ((length d.store ≡ length d.demand) × (NetFits d × (d.opening ≤ required d)))
  limits_ceilings g = ((limits_fill (omega arith) g).0, (g.limits.lengths.store, (limits_net (omega arith) g, g.used)))

  pub bounded : DayLimits max_total d → Bounded (problem_of d)
  bounded g =
      let e = periods_is in
      let l = g.limits in
      record {
        nonempty = omega (arith, l.nonempty);
        few = omega (arith, l.few);
        capacities = l.lengths.capacity ∙ sym e;
        setups = l.lengths.setup ∙ sym e;
        units = l.lengths.unit ∙ sym e;
        holdings = length-list_of (rate_of d.holding) (length d.holding) ∙ l.lengths.holding ∙ sym e;
        demand = λ k h. net_limit l.nonempty _ g.small k (omega arith);
        capacity = λ k h. (l.within k (omega arith)).capacity;
        setup = λ k h. (l.within k (omega arith)).setup;
        unit = λ k h. (l.within k (omega arith)).unit;
        holding = λ k h. omega (arith, rate_is d.holding k, limits_half g k, limits_half g (suc k));
        small = omega (arith, total_is l.nonempty, g.small);
      }

  -- the tables that were filled in are the problem's
  pub problem_is : {net rates : List ℕ} → NetTables d net rates → problem_by net rates d ≡ problem_of d
  problem_is t = ap₂ (λ (needs rates : List ℕ). problem_by needs rates d) t.needs t.rates
