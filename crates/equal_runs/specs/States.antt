-- One state of an interval after one period more, as numbers: which of three amounts the period makes, and what the state then costs.
-- Main definitions: `state_by`, by its loads, and `state_at`, by its index. Assumes nothing.
use Rattle.std.specs.Prelude.{◌≡◌, refl, ℕ, ◌+◌, ◌-◌, ◌*◌, ◌/◌, ◌%◌, ◌≤◌}
use Rattle.std.proofs.Math.Decide.{dec_lt}
use Rattle.std.proofs.Common.{arith}
use Rattle.day.specs.Sums.{at}
use Rattle.day.specs.Plan.{making}
use Rattle.theory.specs.Basics.{pick}
use Rattle.theory.specs.Loads.{made}
use Rattle.theory.specs.Problem.{Problem}
use Rattle.equal_runs.specs.declared.LoadSizes.{LoadSizes}
use Rattle.equal_runs.specs.declared.RunPeriod.{RunPeriod}
use Rattle.equal_runs.specs.declared.RunState.{RunState}
use Rattle.equal_runs.specs.Bounds.{marker}

-- period i of a problem, in an interval that must have made `due` by its end
abbrev pub period_of : Problem → (i due : ℕ) → RunPeriod
period_of p i due = record { setup = at p.setup i; unit = at p.unit i; holding = at p.holding i; due = due }

-- where a row has j full loads and d fractional loads
abbrev pub index_of : ℕ → ℕ → ℕ
index_of j d = 2 * j + d

abbrev pub unreached : RunState
unreached = record { cost = marker; amount = 0 }

-- x is made after a state that cost `before`, and what is then in inventory costs `hold`
abbrev pub offer_of : RunPeriod → (before x hold : ℕ) → RunState
offer_of p before x hold = record { cost = before + (making p.setup p.unit x + hold); amount = x }

-- the second only if it is cheaper
abbrev pub cheaper_of : RunState → RunState → RunState
cheaper_of a b = pick (dec_lt b.cost a.cost) b a

-- a load is tried where the state has n of it; the state without one stands `step` before s
abbrev pub load_of : RunPeriod → (ℕ → ℕ) → (s step n load hold : ℕ) → RunState → RunState
load_of p row s step n load hold best = pick (dec_lt 0 n) (cheaper_of best (offer_of p (row (s - step)) load hold)) best

-- nothing is made, or the fractional load, or a full one: of the equally cheap the smallest
abbrev pub best_of : RunPeriod → LoadSizes → (ℕ → ℕ) → (j d hold : ℕ) → RunState
best_of p w row j d hold =
    load_of p row (index_of j d) 2 j w.full hold (load_of p row (index_of j d) 1 d w.part hold (offer_of p (row (index_of j d)) 0 hold))

-- after the period, from the row before it: unreached where too little is made by then
abbrev pub state_by : RunPeriod → LoadSizes → (ℕ → ℕ) → (j d : ℕ) → RunState
state_by p w row j d =
    pick (dec_lt (made w.full w.part j d) p.due) unreached
    (best_of p w row j d (p.holding * (made w.full w.part j d - p.due)))

-- the state at index s
abbrev pub state_at : RunPeriod → LoadSizes → (ℕ → ℕ) → ℕ → RunState
state_at p w row s = state_by p w row (s / 2) (s % 2)

-- it looks at no state above its own
pub state_ext : (p : RunPeriod) (w : LoadSizes) (row row' : ℕ → ℕ) (s : ℕ)
    → ((t : ℕ) → t ≤ s → row t ≡ row' t)
    → state_at p w row s ≡ state_at p w row' s
state_ext p w row row' s e =
    let i : ℕ = index_of (s / 2) (s % 2) in
    let a = e i (omega arith) in
    let b = e (i - 1) (omega arith) in
    let f = e (i - 2) (omega arith) in
    rw (a, b, f) refl
