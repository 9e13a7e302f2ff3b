-- What the search for the next period answers, as the rule's definition has it, and laws of the search.
-- Main definitions: `turn_of`, `state_in`. Main statements: `open_here`, `open_below`, one period down; `open_front`, the search looks at the marks of its
-- periods alone. Assumes nothing.
use Rattle.std.specs.Prelude.{◌≡◌, refl, Bool, Option, Some, None, List, ℕ, zero, suc, ◌≤◌, ◌<◌, length, take}
use Rattle.std.proofs.Common.{ap, ap₂, ◌∙◌, arith, length-take-le, get_or-take}
use Rattle.day.specs.Sums.{at}
use Rattle.day.specs.Drops.{Turn, Tried, open_at, last_open}
use Rattle.rounds.specs.declared.Turn as coming

abbrev pub turn_of : Option coming.Turn → Option Turn
turn_of (Some t) = Some (record { period = t.period; dropped = t.dropped })
turn_of None = None

-- the state that marks and a plan make, with where the round stands
abbrev pub state_in : (marks plan : List ℕ) → (ahead : ℕ) (dropped : Bool) → Tried
state_in marks plan ahead dropped = record { marks = marks; plan = plan; ahead = ahead; dropped = dropped }

-- one period down
pub open_here : (marks : ℕ → ℕ) (k j : ℕ) → k ≡ suc j → marks j ≡ 0 → Some j ≡ last_open marks k
open_here marks k j e z = rw (e, z) refl

pub open_below : (marks : ℕ → ℕ) (k j : ℕ) → k ≡ suc j → 0 < marks j → last_open marks j ≡ last_open marks k
open_below marks k j e h = rw e (go (marks j) h)
  where
    go : (v : ℕ) → 0 < v → last_open marks j ≡ open_at v j (last_open marks j)
    go zero l = absurd (omega arith)
    go (suc v) l = refl

open_alike : (f g : ℕ → ℕ) (m : ℕ) → ((k : ℕ) → k < m → f k ≡ g k) → last_open f m ≡ last_open g m
open_alike f g zero same = refl
open_alike f g (suc m) same =
    ap₂ (λ (mark : ℕ) (o : Option ℕ). open_at mark m o) (same m (omega arith)) (open_alike f g m (λ k l. same k (omega arith)))

-- the last allowed of the front of a table
pub open_front : (marks : List ℕ) (m : ℕ) → m ≤ length marks → last_open (at (take m marks)) (length (take m marks)) ≡ last_open (at marks) m
open_front marks m le =
    ap (last_open (at (take m marks))) (length-take-le m marks le) ∙ open_alike (at (take m marks)) (at marks) m (λ k l. get_or-take m marks k 0 l)
