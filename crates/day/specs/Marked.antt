-- The marked days and their tie row: the table, and the theorem that each row's outcome is what the
-- meaning and the contracts' refusals say.
-- Main statement: `marked_right`, in proofs/Marked. Assumes nothing.
use Rattle.std.specs.Prelude.{◌≡◌, List, [], ◌∷◌, ℕ, ltb, length, replicate, Option, None, Some}
use Rattle.day.specs.declared.Refusal.{Refusal}
use Rattle.day.specs.declared.Refusal.TheVariants.{PaidSetup}
use Rattle.day.specs.Sums.{at}
use Rattle.day.specs.Day.{Day, tables_of, periods, max_total, max_store}
use Rattle.day.specs.Plan.{Feasible, Optimal, cost, setups}
use Rattle.day.specs.Refusals.{period_of, refuse, or_next, first, FirstShort, paid_setup, low_store}
use Rattle.day.specs.declared.Sizes.{Sizes}
use Rattle.day.specs.Outcome.{Path, Roomy, refusal}
use Rattle.day.specs.Search.{both}

-- what a row claims of its day: its plan, with cost and setups; what some other plan costs; or the period of refusal 7
pub data Claim : Type 0 where
  planned : List ℕ → (cost setups : ℕ) → Claim
  costs : List ℕ → ℕ → Claim
  refused : (period : ℕ) → Claim

-- needs; capacities; b; p; h, one value for all periods; the claims
pub record MarkedRow : Type 0 where
  pub demand : List ℕ
  pub capacity : List ℕ
  pub setup : ℕ
  pub unit : ℕ
  pub holding : ℕ
  pub claims : List Claim

abbrev row : (demand capacity : List ℕ) (b p h : ℕ) → List Claim → MarkedRow
row demand capacity b p h claims = record { demand = demand; capacity = capacity; setup = b; unit = p; holding = h; claims = claims }

-- M1 to M12, and the row in which two plans cost the same
abbrev pub marked : List MarkedRow
marked =
    row (0 ∷ []) (0 ∷ []) 5 1 1 (planned (0 ∷ []) 0 0 ∷ [])
    ∷ row (1 ∷ []) (1 ∷ []) 5 2 9 (planned (1 ∷ []) 7 1 ∷ [])
    ∷ row (2 ∷ []) (1 ∷ []) 5 2 9 (refused 1 ∷ [])
    ∷ row (2 ∷ 3 ∷ []) (5 ∷ 5 ∷ []) 10 1 1 (planned (5 ∷ 0 ∷ []) 21 1 ∷ [])
    ∷ row (2 ∷ 3 ∷ []) (5 ∷ 5 ∷ []) 10 1 4 (planned (2 ∷ 3 ∷ []) 25 2 ∷ [])
    ∷ row (2 ∷ 2 ∷ []) (4 ∷ 4 ∷ []) 10 1 5 (planned (2 ∷ 2 ∷ []) 24 2 ∷ [])
    ∷ row (0 ∷ 4 ∷ []) (3 ∷ 3 ∷ []) 10 1 1 (planned (1 ∷ 3 ∷ []) 26 2 ∷ [])
    ∷ row (1 ∷ 5 ∷ []) (2 ∷ 3 ∷ []) 0 1 1 (refused 2 ∷ [])
    ∷ row (1 ∷ 4 ∷ []) (2 ∷ 3 ∷ []) 0 1 1 (planned (2 ∷ 3 ∷ []) 7 2 ∷ [])
    ∷ row (3 ∷ 0 ∷ []) (2 ∷ 9 ∷ []) 0 1 1 (refused 1 ∷ [])
    ∷ row (2 ∷ 2 ∷ 3 ∷ []) (4 ∷ 4 ∷ 4 ∷ []) 6 1 1 (planned (4 ∷ 0 ∷ 3 ∷ []) 23 2 ∷ [])
    ∷ row (0 ∷ 0 ∷ []) (0 ∷ 0 ∷ []) 5 1 1 (planned (0 ∷ 0 ∷ []) 0 0 ∷ [])
    ∷ row (2 ∷ 2 ∷ []) (4 ∷ 4 ∷ []) 8 1 2 (planned (4 ∷ 0 ∷ []) 20 1 ∷ costs (2 ∷ 2 ∷ []) 20 ∷ [])
    ∷ []

-- the day of a row: no store limit
abbrev pub day_of_row : MarkedRow → Day
day_of_row r =
    let all = replicate (length r.demand) in
    tables_of r.demand r.capacity (all r.setup) (all r.unit) (all r.holding) (all max_store)

-- a plan of the day, and what it costs
pub record Costs (d : Day) (x : List ℕ) (c : ℕ) : Type 0 where
  pub feasible : Feasible d (at x)
  pub cost : cost d (at x) ≡ c

-- what every path refuses with the limit of 4,096, given room: what the day brings by itself, else what the path alone tests
abbrev pub Given : Day → Option Refusal → Type 0
Given d o = (P : Path) (s : Sizes) → P.limit ≡ max_total → Roomy P d s → refusal P d s ≡ or_next o (first (P.own d))

-- the plan of the day, with its cost and setups; a path refuses it by its own tests alone, the free path 15 with period 1 where b is above 0,
-- and none 16
pub record PlannedAs (d : Day) (x : List ℕ) (c s : ℕ) : Type 0 where
  pub given : Given d None
  pub paid : paid_setup d ≡ refuse (ltb 0 (at d.setup 0)) (PaidSetup 1)
  pub stores : low_store d ≡ None
  pub amounts : length x ≡ periods d
  pub plan : Optimal d (at x)
  pub cost : cost d (at x) ≡ c
  pub setups : setups (periods d) (at x) ≡ s

-- there is no plan: every such path gives 7 with period i, counted from 1, the first through which no amounts keep the conditions
pub record RefusedAt (d : Day) (i : ℕ) : Type 0 where
  pub refusal : Refusal
  pub given : Given d (Some refusal)
  pub first : FirstShort d refusal
  pub period : period_of refusal ≡ i
  pub none : (y : ℕ → ℕ) → Feasible d y → ⊥

abbrev pub ClaimHolds : Day → Claim → Type 0
ClaimHolds d (planned x c s) = PlannedAs d x c s
ClaimHolds d (costs x c) = Costs d x c
ClaimHolds d (refused i) = RefusedAt d i

abbrev pub All : {A : Type 0} → (A → Type 0) → List A → Type 0
All P [] = Unit {0}
All P (a ∷ rest) = P a × All P rest

-- a test for every entry
abbrev pub all? : {A : Type 0} {P : A → Type 0} → ((a : A) → Option (P a)) → (l : List A) → Option (All P l)
all? p [] = Some tt
all? p (a ∷ rest) = both (p a) (all? p rest)
