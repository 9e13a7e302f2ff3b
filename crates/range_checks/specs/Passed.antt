-- What a caller of the tests on needs known as ranges learns. Main statements: `pair_passed`, 1, and 2 and 3 on both tables; `range_passed`, all
-- before 7; `all_passed`. Assumes nothing.
use Rattle.std.specs.Prelude.{◌≡◌, refl, false, List, [], ◌∷◌, ◌++◌, ℕ, ◌≤◌, ◌<◌, ltb, length, None}
use Rattle.std.proofs.Common.{◌∙◌, arith, ltb-false, eqb-true}
use Rattle.std.proofs.lemmas.Bool.{not-false}
use Rattle.day.specs.declared.Refusal.TheVariants.{TableLength, AboveLimit, OpeningInventory, ReversedRange}
use Rattle.day.specs.Sums.{at}
use Rattle.day.specs.Find.{none_found, nothing_found}
use Rattle.day.specs.Day.{Day, periods, total, with_demand, max_total}
use Rattle.day.specs.Refusals.{first, bad_count, bad_lengths, above_limit, bad_second, either_above, bad_values, table_tests}
use Rattle.day.specs.Refusals.{pair_tests, total_tests, opened, reverses, reversed, shortage}
use Rattle.day.specs.Tests.{first_split, first_passed, first_one, first_two, not_refused, nowhere, neither}
use Rattle.day.specs.declared.Sizes.{Sizes}
use Rattle.day.specs.Outcome.{area_test}
use Rattle.day.specs.Paths.{full}
use Rattle.day.specs.Ranges.{bound_tests, range_tests, range_refusal}
use Rattle.checks.specs.Passed.{Limits, DayLimits, Passes, tables_passed, day_passed, area_passed, shortage_passed}

-- what tests 1, and 2 and 3 on both tables, leave: 1, 2 and 3 pass for the day, and for the day with the second needs, which are as many
pub record PairPassed (needs : List ℕ) (d : Day) : Type 0 where
  pub tables : first (table_tests d) ≡ None
  pub second : first (table_tests (with_demand needs d)) ≡ None
  pub size : length needs ≡ periods d

pub pair_passed : (needs : List ℕ) (d : Day) → first (pair_tests needs d) ≡ None → PairPassed needs d
pair_passed needs d e =
    let halves = first_split (bad_count (periods d) ∷ bad_lengths d ∷ []) (bad_second needs d ∷ bad_values needs d ∷ []) e in
    let day = first_two (bad_count (periods d)) (bad_lengths d) halves.0 in
    let pair = first_two (bad_second needs d) (bad_values needs d) halves.1 in
    let second = with_demand needs d in
    let found = none_found (either_above needs d) (periods d) (nowhere AboveLimit _ pair.1) in
    let inside : (k : ℕ) → k < periods d → (above_limit d k ≡ false) × (above_limit second k ≡ false) = λ k l. neither _ _ (found k l) in
    let size : length needs ≡ periods d = eqb-true _ _ (not-false _ (not_refused _ TableLength pair.0)) in
    let one = nothing_found (above_limit d) (periods d) (λ k l. (inside k l).0) in
    let other = nothing_found (above_limit second) (periods d) (λ k l. (inside k l).1) in
    record {
      tables = rw (day.0, day.1, one) refl;
      second = rw (size, day.0, day.1, other) refl;
      size = size;
    }

-- what all tests before 7 leave
pub record Ranged (lowest : List ℕ) (d : Day) (s : Sizes) : Type 0 where
  pub day : DayLimits max_total d
  pub low : Limits (with_demand lowest d)
  pub size : length lowest ≡ periods d
  pub costs : full.cost_cells (periods d) (total d) ≤ s.costs
  pub choices : full.choice_cells (periods d) (total d) ≤ s.choices
  pub empty : d.opening ≡ 0
  pub below : (k : ℕ) → k < periods d → at lowest k ≤ at d.demand k

pub range_passed : (lowest : List ℕ) (d : Day) (s : Sizes) → first (range_tests lowest d s) ≡ None → Ranged lowest d s
range_passed lowest d s e =
    let one = first_split (pair_tests lowest d) (total_tests max_total d ++ bound_tests lowest d s) e in
    let two = first_split (total_tests max_total d) (bound_tests lowest d s) one.1 in
    let pair = pair_passed lowest d one.0 in
    let three = first_split (area_test full d s ∷ []) (opened d ∷ reversed lowest d ∷ []) two.1 in
    let last = first_two (opened d) (reversed lowest d) three.1 in
    let room = area_passed full d s (rw first_one at three.0) in
    record {
      day = day_passed d (first_passed (table_tests d) (total_tests max_total d) pair.tables ∙ two.0);
      low = tables_passed (with_demand lowest d) pair.second;
      size = pair.size;
      costs = room.0;
      choices = room.1;
      empty = omega (arith, ltb-false 0 d.opening (not_refused (ltb 0 d.opening) OpeningInventory last.0));
      below = λ k l. ltb-false _ _ (none_found (reverses lowest d) (periods d) (nowhere ReversedRange _ last.1) k l);
    }

-- and 7 with them
pub all_passed : (lowest : List ℕ) (d : Day) (s : Sizes) → range_refusal lowest d s ≡ None
    → Ranged lowest d s × ((k : ℕ) → k < periods d → Passes d k)
all_passed lowest d s e =
    let t = first_split (range_tests lowest d s) (shortage d ∷ []) e in
    (range_passed lowest d s t.0, shortage_passed d (rw first_one at t.1))
