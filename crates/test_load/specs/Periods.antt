-- How the tables of a test load fill: period by period, each from the seed that the one before it left.
-- Main statements: `load_passed`, what passed tests tell; `draws_turn`, a turn of the loop. Assumes nothing.
use Rattle.std.specs.Prelude.{◌≡◌, refl, ℕ, suc, ◌+◌, ◌*◌, ◌≤◌, ◌<◌, None}
use Rattle.std.proofs.Common.{arith, ltb-false}
use Rattle.day.specs.Day.{Day, max_periods}
use Rattle.day.specs.declared.Refusal.TheVariants.{FewSlots}
use Rattle.day.specs.Refusals.{bad_count, bad_slots}
use Rattle.day.specs.Tests.{first_two, not_refused}
use Rattle.checks.specs.Passed.{count_passed}
use Rattle.tables.specs.Filled.{Cells, shortest, cells_enough, stored, Filled, filled_more}
use Rattle.test_load.specs.declared.Drawn.{Drawn}
use Rattle.test_load.specs.Draws.{seed_after}
use Rattle.test_load.specs.Load.{bad_load, numbers_at}

-- what the tests leave: 1 to 96 periods, and as many cells in each table
pub record Taken (n : ℕ) (tables : Day) : Type 0 where
  pub nonempty : 1 ≤ n
  pub few : n ≤ max_periods
  pub cells : Cells n tables

pub load_passed : (n : ℕ) (tables : Day) → bad_load n (shortest tables) ≡ None → Taken n tables
load_passed n tables e =
    let t = first_two (bad_count n) (bad_slots (shortest tables) n) e in
    let count = count_passed n t.0 in
    record {
      nonempty = count.0;
      few = count.1;
      cells = cells_enough n tables (ltb-false (shortest tables) n (not_refused _ FewSlots t.1));
    }

-- one period, from the seed before its draws: the first of the load that this seed gives; and the seed after them
unfoldable pub drawn_from : ℕ → Drawn
drawn_from seed = record { entries = numbers_at seed 0; seed = seed_after seed 5 }

-- the loop has drawn k periods
pub record PeriodsDrawn (seed n : ℕ) (before : Day) (k at : ℕ) (after : Day) : Type 0 where
  pub here : at ≡ seed_after seed (5 * k)
  pub filled : Filled (numbers_at seed) n before k after

-- five draws on from there are those of the next period
next_period : (seed k : ℕ) → drawn_from (seed_after seed (5 * k)) ≡ record { entries = numbers_at seed k; seed = seed_after seed (5 * (k + 1)) }
unfolding drawn_from
next_period seed k =
    let one : 5 * k + 1 ≡ suc (5 * k) = omega arith in
    let two : 5 * k + 2 ≡ suc (suc (5 * k)) = omega arith in
    let three : 5 * k + 3 ≡ suc (suc (suc (5 * k))) = omega arith in
    let four : 5 * k + 4 ≡ suc (suc (suc (suc (5 * k)))) = omega arith in
    let five : 5 * k + 5 ≡ suc (suc (suc (suc (suc (5 * k))))) = omega arith in
    let last : 5 * (k + 1) ≡ suc (suc (suc (suc (suc (5 * k))))) = omega arith in
    rw (one, two, three, four, five, last) refl

-- a turn of it: the next period's numbers go to cell k
pub draws_turn : (seed n : ℕ) (before : Day) (k at : ℕ) (after later : Day) {drawn : Drawn}
    → PeriodsDrawn seed n before k at after → k < n → Cells n before → drawn ≡ drawn_from at → later ≡ stored k drawn.entries after
    → PeriodsDrawn seed n before (k + 1) drawn.seed later
draws_turn seed n before k at after later w l c e put =
    let same = rw (w.here, next_period seed k) at e in
    record {
      here = rw same refl;
      filled = filled_more _ _ _ _ _ w.filled l c later (rw same at put);
    }
