-- What the greedy rule has to give on a day: `Plans`; what a state of the trials of a big day has: `Stands`. What holds of the trials is
-- in proofs/Drops. Assumes nothing.
use Rattle.std.specs.Prelude.{◌≡◌, List, ℕ, ◌≤◌, length, Option, None, Some}
use Rattle.day.specs.Sums.{at}
use Rattle.day.specs.Day.{Day, periods}
use Rattle.day.specs.Plan.{Feasible, Optimal}
use Rattle.day.specs.Drops.{Tried}
use Rattle.theory.specs.Store.{Loose}

-- the plan of a day as a table, or nothing where no amounts keep the conditions
abbrev pub Plans : Day → Option (List ℕ) → Type 0
Plans d None = (x : ℕ → ℕ) → Feasible d x → ⊥
Plans d (Some plan) = (length plan ≡ periods d) × Optimal d (at plan)

-- The trials of a day whose stores can't bind.
module _ (d : Day) (loose : Loose d) where
  -- a mark and an amount for every period, amounts that keep the conditions, and a round within the day
  pub record Stands (s : Tried) : Type 0 where
    pub marks : length s.marks ≡ periods d
    pub size : length s.plan ≡ periods d
    pub feasible : Feasible d (at s.plan)
    pub ahead : s.ahead ≤ periods d
