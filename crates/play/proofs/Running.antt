-- What a play carries from one period to the next. Main statements: `inventory_balance`, `demand_balance`, through every period;
-- `running_more`, `running_room`, `running_through`, the loop over the periods. Assumes nothing.
use Rattle.std.proofs.Common.{◌≡◌, refl, ℕ, zero, suc, ◌+◌, ◌*◌, ◌≤◌, ◌<◌, add-one, arith}
use Rattle.day.specs.Sums.{sum_to}
use Rattle.day.specs.Day.{max_periods, max_capacity}
use Rattle.play.specs.declared.Flows.{Flows}
use Rattle.play.specs.Play.{delivered_of, lost_of, disposed_of, left_of, available_at, flows_to}
use Rattle.play.specs.Run.{next_of, Room}

module _ (opening : ℕ) (store x needs : ℕ → ℕ) where
  -- what is there is delivered, spilled or left; a need is delivered or missed
  one_inventory : (available need store : ℕ) → available ≡ delivered_of available need + disposed_of available need store + left_of available need store
  one_inventory available need store = omega arith

  one_demand : (available need : ℕ) → delivered_of available need + lost_of available need ≡ need
  one_demand available need = omega arith

  -- opening and made are delivered, spilled or left
  pub inventory_balance : (i : ℕ) → let p = flows_to opening store x needs i in opening + p.produced ≡ p.delivered + p.disposed + p.left
  inventory_balance zero = omega arith
  inventory_balance (suc k) =
      omega (arith, inventory_balance k, one_inventory (available_at opening store x needs k) (needs k) (store k))

  -- what was needed is delivered or missed
  pub demand_balance : (i : ℕ) → let p = flows_to opening store x needs i in p.delivered + p.lost ≡ sum_to needs i
  demand_balance zero = refl
  demand_balance (suc k) = omega (arith, demand_balance k, one_demand (available_at opening store x needs k) (needs k))

-- the loop over n periods: after i of them the code holds their flows, of numbers that have 16 bits
pub record Running (opening : ℕ) (store x needs : ℕ → ℕ) (n i : ℕ) (p : Flows) : Type 0 where
  pub inside : i ≤ n
  pub sums : p ≡ flows_to opening store x needs i
  pub produced : sum_to x i ≤ max_capacity * i
  pub needed : sum_to needs i ≤ max_capacity * i

module _ {opening : ℕ} {store x needs : ℕ → ℕ} {n i : ℕ} {p : Flows} (r : Running opening store x needs n i p) where
  -- one period more
  pub running_more : {q : Flows} → i < n → x i ≤ max_capacity → needs i ≤ max_capacity → q ≡ next_of p (x i) (needs i) (store i)
      → Running opening store x needs n (i + 1) q
  running_more l a b e =
      rw add-one
      (record {
        inside = l;
        sums = rw r.sums at e;
        produced = omega (arith, r.produced);
        needed = omega (arith, r.needed);
      })

  -- by the balances no sum is too large for it
  pub running_room : n ≤ max_periods → opening ≤ max_capacity → Room p
  running_room few low =
      let e = r.sums in
      let there = inventory_balance opening store x needs i in
      let wanted = demand_balance opening store x needs i in
      rw e
      (record {
        produced = omega (arith, r.produced, r.inside);
        delivered = omega (arith, wanted, r.needed, r.inside);
        lost = omega (arith, wanted, r.needed, r.inside);
        disposed = omega (arith, there, r.produced, r.inside);
        left = omega (arith, there, r.produced, r.inside);
      })

  -- after the last period it is all of them
  pub running_through : n ≤ i → p ≡ flows_to opening store x needs n
  running_through l = let e : i ≡ n = omega (arith, r.inside) in rw e at r.sums
