-- When two answers on one day agree: `Agree`. That those of two paths do is in proofs/Agreement. Assumes nothing.
use Rattle.std.specs.Prelude.{◌≡◌, ℕ, ◌<◌, Result, Ok, Err}
use Rattle.day.specs.Sums.{at}
use Rattle.day.specs.declared.Refusal.{Refusal}
use Rattle.day.specs.declared.Totals.{Totals}
use Rattle.day.specs.Day.{Day, periods}
use Rattle.day.specs.Outcome.{Memory}

-- two answers on one day, with the slots that they left: the same refusal; or the same plan, cost and setups
abbrev pub Agree : Day → Result Totals Refusal → Memory → Result Totals Refusal → Memory → Type 0
Agree d (Err r) m (Err q) m' = r ≡ q
Agree d (Err r) m (Ok t) m' = ⊥
Agree d (Ok t) m (Err q) m' = ⊥
Agree d (Ok t) m (Ok u) m' = ((k : ℕ) → k < periods d → at m.slots k ≡ at m'.slots k) × (t ≡ u)
