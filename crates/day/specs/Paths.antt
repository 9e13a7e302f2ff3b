-- The paths: the most that R + Z may be, the cells that each needs, and the tests
-- that it alone applies.
-- Main definition: `path_of`. Assumes nothing.
use Rattle.std.specs.Prelude.{[], ◌∷◌, ◌+◌, ◌*◌}
use Rattle.day.specs.declared.PathKind.{PathKind}
use Rattle.day.specs.declared.PathKind.TheVariants.{Full, Uncapped, Equal, Free, Big}
use Rattle.day.specs.Day.{max_total, max_big_total}
use Rattle.day.specs.Refusals.{unequal, binding, paid_setup, low_store}
use Rattle.day.specs.Outcome.{Path}

-- recursion (5), for any day
abbrev pub full : Path
full = record { limit = max_total; cost_cells = λ n T. 2 * (T + 1); choice_cells = λ n T. n * (T + 1); own = λ d. [] }

-- Wagner and Whitin, for days whose capacities can't bind; like the next two, for stores that can't bind either
abbrev pub uncapped : Path
uncapped = record { limit = max_total; cost_cells = λ n T. n + 1; choice_cells = λ n T. n + 1; own = λ d. binding d ∷ low_store d ∷ [] }

-- Florian and Klein, for days with one capacity throughout
abbrev pub equal : Path
equal = record {
  limit = max_total;
  cost_cells = λ n T. 6 * (n + 1);
  choice_cells = λ n T. 4 * ((n + 1) * (n + 1));
  own = λ d. unequal d ∷ low_store d ∷ [];
}

-- the greedy rule of the report's section 4, for days without setup cost
abbrev pub free : Path
free = record { limit = max_total; cost_cells = λ n T. n; choice_cells = λ n T. 0; own = λ d. paid_setup d ∷ low_store d ∷ [] }

-- trials by the greedy rule, for big days, whose plan is the best so far and not the plan of the day
abbrev pub big : Path
big = record { limit = max_big_total; cost_cells = λ n T. 3 * n; choice_cells = λ n T. 0; own = λ d. low_store d ∷ [] }

abbrev pub path_of : PathKind → Path
path_of Full = full
path_of Uncapped = uncapped
path_of Equal = equal
path_of Free = free
path_of Big = big
