-- What refusal 7 names on a day whose stores can't bind: `FirstAbove`. The demands themselves are in proofs/Demands. Assumes nothing.
use Rattle.std.specs.Prelude.{suc, ◌≤◌, ◌<◌}
use Rattle.day.specs.declared.Refusal.{Refusal}
use Rattle.day.specs.Day.{Day, capacity_to, net_to}
use Rattle.day.specs.Refusals.{FirstAt}

-- what it names on a day whose stores can't bind: the first period by whose end more must have been made than C
abbrev pub FirstAbove : Day → Refusal → Type 0
FirstAbove d r = FirstAt d (λ k. capacity_to d (suc k) < net_to d (suc k)) (λ k. net_to d (suc k) ≤ capacity_to d (suc k)) r
