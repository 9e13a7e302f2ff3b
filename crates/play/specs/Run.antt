-- What a play carries from one period to the next, and what it asks for. Main definitions: `next_of`; `Room`, `Playable`. Assumes nothing.
use Rattle.std.specs.Prelude.{◌≡◌, List, ℕ, ◌+◌, ◌≤◌, length}
use Rattle.day.specs.Day.{max_periods, max_sum}
use Rattle.play.specs.declared.Flows.{Flows}
use Rattle.play.specs.Play.{delivered_of, lost_of, disposed_of, left_of}

-- a period more, from the play through those before it
abbrev pub next_of : Flows → (amount need store : ℕ) → Flows
next_of p amount need store = record {
  produced = p.produced + amount;
  delivered = p.delivered + delivered_of (p.left + amount) need;
  lost = p.lost + lost_of (p.left + amount) need;
  disposed = p.disposed + disposed_of (p.left + amount) need store;
  left = left_of (p.left + amount) need store;
}

-- sums that leave room for one period more
pub record Room (p : Flows) : Type 0 where
  pub produced : p.produced ≤ max_sum
  pub delivered : p.delivered ≤ max_sum
  pub lost : p.lost ≤ max_sum
  pub disposed : p.disposed ≤ max_sum
  pub left : p.left ≤ max_sum

-- a need and a store limit for each of at most 96 periods, and a plan that has an amount for each
pub record Playable (plan actual store : List ℕ) : Type 0 where
  pub few : length actual ≤ max_periods
  pub limits : length store ≡ length actual
  pub amounts : length actual ≤ length plan
