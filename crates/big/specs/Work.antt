-- The work of the call on a big day: what its steps ask and leave. Assumes nothing.
use Rattle.std.specs.Prelude.{◌≡◌, List, ◌++◌, ℕ, ◌-◌, ◌≤◌, ◌<◌, length}
use Rattle.std.proofs.Common.{sym, ap, ◌∙◌}
use Rattle.std.proofs.Math.ListN.{get_or-append}
use Rattle.day.specs.declared.Totals.{Totals}
use Rattle.day.specs.declared.Trials.{Trials}
use Rattle.day.specs.Sums.{at}
use Rattle.day.specs.Day.{Day, periods, max_big_total}
use Rattle.day.specs.Plan.{Feasible, Optimal, cost}
use Rattle.day.specs.Drops.{starts_free}
use Rattle.checks.specs.Passed.{DayLimits}
use Rattle.weigher.specs.Verdict.{totals_of}
use Rattle.weigher.specs.Walk.{FeasiblePlan}
use Rattle.theory.specs.Store.{Loose}
use Rattle.drops.specs.Standing.{Finished}

-- a trial or more of a day within the limits of big days whose stores can't bind and of which no period is short; for each period a cell for its key, one
-- for its mark and one for its amount in the best plan, and a slot for trial 1's
pub record TrialsAsk (trials : ℕ) (d : Day) (keys marks first best : List ℕ) : Type 0 where
  pub trial : 0 < trials
  pub limits : DayLimits max_big_total d
  pub loose : Loose d
  pub supplied : (x : ℕ → ℕ) × Feasible d x
  pub keyed : length keys ≡ periods d
  pub marked : length marks ≡ periods d
  pub size : length first ≡ periods d
  pub room : length best ≡ periods d

-- trial 1's plan is that of the day with all starts free, and the trials have ended, so many of them made
pub record TrialsGive (trials : ℕ) (d : Day) (used : ℕ) (first marks best : List ℕ) : Type 0 where
  pub free : Optimal (starts_free d.capacity d) (at first)
  pub size : length first ≡ periods d
  pub finished : Finished d trials used marks best

-- the best plan keeps the conditions of the day, and trial 1's those of the day with all starts free, where it costs no more
pub record Answerable (d : Day) (first best : List ℕ) : Type 0 where
  pub keeps : FeasiblePlan d best
  pub free : FeasiblePlan (starts_free d.capacity d) first
  pub low : cost (starts_free d.capacity d) (at first) ≤ cost d (at best)

-- totals of the best plan, trials used, and the gap
abbrev pub answer_of : Day → (first best : List ℕ) → (used : ℕ) → Totals × Trials
answer_of d first best used =
    (totals_of d (at best), record { used = used; gap = cost d (at best) - cost (starts_free d.capacity d) (at first) })

-- slots that begin with a plan hold its amounts
pub begins_with : (plan rest slots : List ℕ) (k : ℕ) → slots ≡ plan ++ rest → k < length plan → at plan k ≡ at slots k
begins_with plan rest slots k e l = sym (ap (λ (s : List ℕ). at s k) e ∙ get_or-append plan rest 0 k l)
