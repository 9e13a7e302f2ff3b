-- Big days, best so far: trials by the greedy rule with starts taken as free, each of which forbids one period more.
-- Index k is period k + 1. A mark says of a period whether it is forbidden: 0 where it is allowed.
-- Main definitions: `Ruled`, what a trial plans; `next`, which period the next trial forbids; `TriedIn`, what so many trials lead to;
-- `Dropping`, the contract of the call. Assumes nothing.
use Rattle.std.specs.Prelude.{◌≡◌, Bool, true, false, List, [], ◌∷◌, ◌++◌, ℕ, zero, suc, ◌-◌, ◌≤◌, ◌<◌}
use Rattle.std.specs.Prelude.{ltb, length, drop, replicate, set, Option, None, Some, Result, Ok, Err}
use Rattle.day.specs.declared.Refusal.{Refusal}
use Rattle.day.specs.declared.Totals.{Totals}
use Rattle.day.specs.declared.Trials.{Trials}
use Rattle.day.specs.Sums.{at, list_of}
use Rattle.day.specs.Day.{Day, day_of, ends_of, periods, total}
use Rattle.day.specs.Plan.{cost, setups}
use Rattle.day.specs.InTurn.{ServedTo}
use Rattle.day.specs.Refusals.{Gives, first, no_trials}
use Rattle.day.specs.Figures.{accepted_with, big_figures}
use Rattle.day.specs.declared.Sizes.{Sizes}
use Rattle.day.specs.Outcome.{Memory, sizes_of, refusal, Cleared}
use Rattle.day.specs.Paths.{big}
use Rattle.day.specs.Ranges.{LeastCost}

-- the day with other capacities, and with all starts free
abbrev pub starts_free : (capacities : List ℕ) → Day → Day
starts_free capacities d = day_of d.demand capacities (replicate (periods d) 0) d.unit d.holding d.store (ends_of d)

-- the capacity of a period with a mark: a forbidden one makes nothing
abbrev pub allowed_at : (mark capacity : ℕ) → ℕ
allowed_at zero c = c
allowed_at (suc _) c = 0

abbrev pub allowed_in : (marks : List ℕ) → Day → ℕ → ℕ
allowed_in marks d k = allowed_at (at marks k) (at d.capacity k)

abbrev pub allowed : (marks : List ℕ) → Day → List ℕ
allowed marks d = list_of (allowed_in marks d) (periods d)

-- the day that a trial plans
abbrev pub trial_day : (marks : List ℕ) → Day → Day
trial_day marks d = starts_free (allowed marks d) d

-- what the rule gives: amounts for all periods, by which it has served all that is to be made, or nothing, where no amounts are such
abbrev pub Ruled : Day → Option (List ℕ) → Type 0
Ruled d None = (x : ℕ → ℕ) → ServedTo d (total d) x → ⊥
Ruled d (Some plan) = (length plan ≡ periods d) × ServedTo d (total d) (at plan)

-- where the trials stand: the marks, the best plan so far, and the round: it has yet to look at the first `ahead` periods, and `dropped` says whether
-- it has forbidden one of the others
pub record Tried : Type 0 where
  pub marks : List ℕ
  pub plan : List ℕ
  pub ahead : ℕ
  pub dropped : Bool

-- the last allowed of the first m periods
abbrev pub open_at : (mark k : ℕ) → Option ℕ → Option ℕ
open_at zero k earlier = Some k
open_at (suc _) k earlier = earlier

abbrev pub last_open : (marks : ℕ → ℕ) → ℕ → Option ℕ
last_open marks zero = None
last_open marks (suc m) = open_at (marks m) m (last_open marks m)

-- the period that is forbidden next, and whether its round has forbidden one before it
pub record Turn : Type 0 where
  pub period : ℕ
  pub dropped : Bool

abbrev pub turn_to : (dropped : Bool) → Option ℕ → Option Turn
turn_to dropped None = None
turn_to dropped (Some k) = Some (record { period = k; dropped = dropped })

-- after a round: another one, with none forbidden yet, unless this one has forbidden none
abbrev pub another_round : (last : Option ℕ) (dropped : Bool) → Option Turn
another_round last false = None
another_round last true = turn_to false last

-- the round goes on downwards, or is over
abbrev pub in_round : (onward last : Option ℕ) (dropped : Bool) → Option Turn
in_round None last dropped = another_round last dropped
in_round (Some k) last dropped = turn_to dropped (Some k)

-- the next of n periods; none where the call stops
abbrev pub next : ℕ → Tried → Option Turn
next n s = in_round (last_open (at s.marks) s.ahead) (last_open (at s.marks) n) s.dropped

-- the marks with that period forbidden too
abbrev pub forbidding : Tried → Turn → List ℕ
forbidding s t = set s.marks t.period 1

-- after a trial the round goes on below its period, which is allowed again,
abbrev pub undone : Tried → Turn → Tried
undone s t = record { marks = s.marks; plan = s.plan; ahead = t.period; dropped = t.dropped }

-- or stays forbidden, with the trial's plan as the best
abbrev pub done : Tried → Turn → List ℕ → Tried
done s t plan = record { marks = forbidding s t; plan = plan; ahead = t.period; dropped = true }

-- it stays forbidden exactly if there is a plan that costs strictly less than the best so far, starts included
abbrev pub judged : Tried → Turn → List ℕ → (less : Bool) → Tried
judged s t plan true = done s t plan
judged s t plan false = undone s t

abbrev pub settled : Day → Tried → Turn → Option (List ℕ) → Tried
settled d s t None = undone s t
settled d s t (Some plan) = judged s t plan (ltb (cost d (at plan)) (cost d (at s.plan)))

-- trial 1: all periods are allowed
pub record FirstTrial (d : Day) (s : Tried) : Type 0 where
  pub ruled : Ruled (trial_day s.marks d) (Some s.plan)
  pub marks : s.marks ≡ replicate (periods d) 0
  pub ahead : s.ahead ≡ periods d
  pub dropped : s.dropped ≡ false

-- a further trial
pub record NextTrial (d : Day) (s r : Tried) : Type 0 where
  pub turn : Turn
  pub comes : next (periods d) s ≡ Some turn
  pub outcome : Option (List ℕ)
  pub ruled : Ruled (trial_day (forbidding s turn) d) outcome
  pub is : r ≡ settled d s turn outcome

-- t trials lead to s, each of them a step
abbrev pub TriedIn : Day → (t : ℕ) → Tried → Type 0
TriedIn d zero s = ⊥
TriedIn d (suc zero) s = FirstTrial d s
TriedIn d (suc (suc t)) s = (q : Tried) × TriedIn d (suc t) q × NextTrial d q s

-- and of so many allowed trials there are no more: all are used up, or a round has forbidden none
pub record Ended (d : Day) (trials used : ℕ) (s : Tried) : Type 0 where
  pub tried : TriedIn d used s
  pub allowed : used ≤ trials
  pub stops : used < trials → next (periods d) s ≡ None

-- the call's first refusal: a path's in their order, then 19
abbrev pub big_refusal : (trials : ℕ) → Day → Sizes → Option Refusal
big_refusal trials d s = first (refusal big d s ∷ no_trials trials ∷ [])

-- an accepted call: the first n slots hold the best plan when the trials end, the needed cost cells hold zero, the rest is as it was; by the answer's
-- figures its cost and setups, the trials used, and the gap: its cost less the least with all starts free. No choice cells are lent.
pub record BestSoFar (trials : ℕ) (d : Day) (a : Totals) (b : Trials) (before after : Memory) : Type 0 where
  pub state : Tried
  pub used : ℕ
  pub ended : Ended d trials used state
  pub free : ℕ
  pub least : LeastCost (starts_free d.capacity d) free
  pub gives : let x = at state.plan in
      big_figures (Ok (a, b)) ≡ accepted_with (cost d x ∷ setups (periods d) x ∷ used ∷ (cost d x - free) ∷ [])
  pub slots : after.slots ≡ state.plan ++ drop (periods d) before.slots
  pub costs : Cleared (big.cost_cells (periods d) (total d)) before.costs after.costs

-- the contract of the call: where there is a refusal it is the answer, by its number and period, and no cell changes
abbrev pub Dropping : (trials : ℕ) → Day → Memory → Result (Totals × Trials) Refusal → Memory → Type 0
Dropping trials d before (Err r) after = Gives (big_refusal trials d (sizes_of before)) r × (after ≡ before)
Dropping trials d before (Ok p) after = (big_refusal trials d (sizes_of before) ≡ None) × BestSoFar trials d p.0 p.1 before after
