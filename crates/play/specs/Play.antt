-- The day played through: what a plan does against a table of actual needs, period by period.
-- A plan and a table of needs are functions from periods to amounts, as in the crate day's Plan. Index k is period k + 1.
-- Main definitions: `delivered_of` to `left_of`, one period; `inventory_to`, the charge left after so many; `flows_of`, the sums over the day.
-- Assumes nothing.
use Rattle.std.specs.Prelude.{◌≡◌, ℕ, zero, suc, ◌+◌, ◌-◌, min}
use Rattle.day.specs.Sums.{at, sum_to}
use Rattle.day.specs.Day.{Day, periods}
use Rattle.day.specs.Plan.{inventory}
use Rattle.play.specs.declared.Flows.{Flows}

-- One period. There is so much charge once the cell has made its amount; the need is delivered as far as that reaches
abbrev pub delivered_of : (available need : ℕ) → ℕ
delivered_of available need = min need available

-- the rest of the need is missed
abbrev pub lost_of : (available need : ℕ) → ℕ
lost_of available need = need - delivered_of available need

-- then charge above s is spilled
abbrev pub disposed_of : (available need store : ℕ) → ℕ
disposed_of available need store = available - delivered_of available need - store

-- and what is still there is left
abbrev pub left_of : (available need store : ℕ) → ℕ
left_of available need store = available - delivered_of available need - disposed_of available need store

-- Of a day a play needs the opening charge and the store limits.
-- The charge left after i periods; A before the first
abbrev pub inventory_to : (opening : ℕ) (store x needs : ℕ → ℕ) → ℕ → ℕ
inventory_to opening store x needs zero = opening
inventory_to opening store x needs (suc k) = left_of (inventory_to opening store x needs k + x k) (needs k) (store k)

-- what is there in period k + 1 once its amount is made
abbrev pub available_at : (opening : ℕ) (store x needs : ℕ → ℕ) → ℕ → ℕ
available_at opening store x needs k = inventory_to opening store x needs k + x k

-- what was made, delivered, missed and spilled over the first i periods, and what is left after them
abbrev pub flows_to : (opening : ℕ) (store x needs : ℕ → ℕ) → ℕ → Flows
flows_to opening store x needs i = record {
  produced = sum_to x i;
  delivered = sum_to (λ k. delivered_of (available_at opening store x needs k) (needs k)) i;
  lost = sum_to (λ k. lost_of (available_at opening store x needs k) (needs k)) i;
  disposed = sum_to (λ k. disposed_of (available_at opening store x needs k) (needs k) (store k)) i;
  left = inventory_to opening store x needs i;
}

-- over the day
abbrev pub flows_of : Day → (x needs : ℕ → ℕ) → Flows
flows_of d x needs = flows_to d.opening (at d.store) x needs (periods d)

-- Against the planned needs a plan that keeps the conditions plays as planned: through every period nothing is missed or spilled, and what is left is
-- the inventory of the plan.
pub record AsPlanned (d : Day) (x : ℕ → ℕ) (i : ℕ) (p : Flows) : Type 0 where
  pub left : p.left ≡ inventory d x i
  pub lost : p.lost ≡ 0
  pub disposed : p.disposed ≡ 0
