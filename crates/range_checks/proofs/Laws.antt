-- What the calls of 3 on two tables of needs answer, in plain variables. Assumes nothing.
use Rattle.std.proofs.Common.{◌≡◌, subst, List, ℕ, length, Result}
use Rattle.day.specs.declared.Refusal.{Refusal}
use Rattle.day.specs.Day.{Day, periods, with_demand}
use Rattle.day.specs.Refusals.{checked, above_limit, bad_value, bad_values}
use Rattle.range_checks.specs.Earlier.{earlier, earlier_either}

-- 3 on both tables, from 3 on each
pub both_values : (needs : List ℕ) (d : Day) → length needs ≡ periods d
    → {other : Day} {first second answer : Result Unit Refusal}
    → first ≡ checked (bad_value d)
    → other ≡ with_demand needs d → second ≡ checked (bad_value other) → answer ≡ earlier first second → answer ≡ checked (bad_values needs d)
both_values needs d size {other} {first} {second} e o f is =
    let g = rw size at (subst (λ (d : Day). second ≡ checked (bad_value d)) o f) in
    rw (← earlier_either (above_limit d) (above_limit (with_demand needs d)) (periods d), ← e, ← g) is
