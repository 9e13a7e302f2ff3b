-- How many cells a path needs. Main definition: `NeededBy`; main statement: `needed_areas`. Assumes nothing.
use Rattle.std.specs.Prelude.{◌≡◌, refl, ℕ}
use Rattle.day.specs.Day.{Day, periods, total}
use Rattle.day.specs.Refusals.{bad_areas}
use Rattle.day.specs.declared.Sizes.{Sizes}
use Rattle.day.specs.Outcome.{Path, area_test}
use Rattle.path_checks.specs.declared.Needed.{Needed}

-- what a path needs for n periods in which T is made
pub record NeededBy (P : Path) (n T : ℕ) (r : Needed) : Type 0 where
  pub costs : r.costs ≡ P.cost_cells n T
  pub choices : r.choices ≡ P.choice_cells n T

-- 5, from the cells that were counted
pub needed_areas : (P : Path) (d : Day) (s : Sizes) {T : ℕ} {r : Needed} → T ≡ total d → NeededBy P (periods d) T r
    → bad_areas s.costs r.costs s.choices r.choices ≡ area_test P d s
needed_areas P d s t n = rw (n.costs, n.choices, t) refl
