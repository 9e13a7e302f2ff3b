-- Where the trials of a big day stand, in marks and amounts and beside them. Main definitions: `Held`, what every trial finds; `Stepped`, what a further
-- one leaves; `Begun`, what trial 1 leaves; `Finished`, what all leave. Assumes nothing.
use Rattle.std.specs.Prelude.{◌≡◌, Some, Bool, false, List, ℕ, ◌≤◌, ◌<◌, length}
use Rattle.day.specs.Sums.{at}
use Rattle.day.specs.Day.{Day, periods}
use Rattle.day.specs.Plan.{Feasible, cost}
use Rattle.day.specs.Drops.{allowed, Tried, next, FirstTrial, NextTrial, Ended}
use Rattle.rounds.specs.Turns.{turn_of, state_in}
use Rattle.rounds.specs.declared.Turn.{Turn}
use Rattle.drops.specs.declared.Standing.{Standing}
use Rattle.drops.specs.Trial.{Triable}

-- the state of the trials: the marks, the best plan, and where the round stands
abbrev pub state_of : (marks best : List ℕ) → Standing → Tried
state_of marks best s = state_in marks best s.ahead s.dropped

-- a trial can be made, its capacities are those that the marks allow, and the best plan costs so much
pub record Held (d : Day) (allowances marks best plan : List ℕ) (least : ℕ) : Type 0 where
  pub triable : Triable d allowances plan
  pub marked : length marks ≡ periods d
  pub room : length best ≡ periods d
  pub allowed : allowances ≡ allowed marks d
  pub costs : least ≡ cost d (at best)

-- the trial that comes next is the one that forbids the turn's period
pub record NextIs (d : Day) (marks best : List ℕ) (s : Standing) (turn : Turn) : Type 0 where
  pub ahead : s.ahead ≤ periods d
  pub inside : turn.period < periods d
  pub comes : next (periods d) (state_of marks best s) ≡ turn_of (Some turn)

-- a further trial is made
pub record Stepped (d : Day) (s : Standing) (marks₀ best₀ : List ℕ) (r : Standing) (allowances marks best plan : List ℕ) : Type 0 where
  pub held : Held d allowances marks best plan r.cost
  pub trial : NextTrial d (state_of marks₀ best₀ s) (state_of marks best r)

-- trial 1 can be made: no period is short, and there is an allowance, a mark, an amount and a slot for each
pub record Startable (d : Day) (allowances marks best plan : List ℕ) : Type 0 where
  pub supplied : (x : ℕ → ℕ) × Feasible d x
  pub each : length allowances ≡ periods d
  pub marked : length marks ≡ periods d
  pub room : length best ≡ periods d
  pub size : length plan ≡ periods d

-- trial 1 is made, and its plan is in the slots too
pub record Begun (d : Day) (r : ℕ) (allowances marks best plan : List ℕ) : Type 0 where
  pub held : Held d allowances marks best plan r
  pub trial : FirstTrial d (state_in marks best (periods d) false)
  pub is : best ≡ plan

-- the trials have ended, so many of them made
pub record Finished (d : Day) (trials used : ℕ) (marks best : List ℕ) : Type 0 where
  pub ahead : ℕ
  pub dropped : Bool
  pub ended : Ended d trials used (state_in marks best ahead dropped)
