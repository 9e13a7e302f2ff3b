-- The theory of the planner, over one model. A module uses those above it.
-- The model; choices, parts of lists, the first least index, the order of plans.
pub mod Model
pub mod Basics
pub mod Parts
pub mod Cheapest
pub mod Order
-- Recursion (5): over stages of any kind, over totals, for a model.
pub mod Stages
pub mod Totals
pub mod Recursion
-- Plans spliced and cut; the totals that can be reached; what the full path computes.
pub mod Cut
pub mod Reachable
pub mod Full
-- No two fractional periods in one regeneration interval; plans as intervals of a kind.
pub mod Exchange
pub mod Memo
pub mod Candidates
pub mod Regeneration
-- What the uncapped path computes (Wagner and Whitin), and where its search can end.
pub mod Uncapped
pub mod WagnerWhitin
pub mod Carried
-- How many full loads; what the equal path computes (Florian and Klein).
pub mod FullLoads
pub mod FlorianKlein
pub mod Loads
-- What the free path computes (the greedy rule), and why.
pub mod Compare
pub mod Greedy
pub mod FreeSetups
pub mod Batches
pub mod Counted
-- What the loops run on; the days as such problems, and their store limits; what a path's answer says, and the trials of big
-- days. What holds of these is in proofs/.
pub mod Problem
pub mod Net
pub mod Store
pub mod Demands
pub mod Drops
pub mod Agreement
pub mod Calls
