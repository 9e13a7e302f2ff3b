-- The theorems of days, over the theory's one model. A module uses those above it.
-- The greedy rule as a loop computes it.
pub mod Batches
-- Store limits; the days as problems; the greedy rule on them; what a path's answer says; easier days; the trials of big days; agreement of paths; what
-- holds of the calls, and the loads of the equal path.
pub mod Store
pub mod Loose
pub mod Base
pub mod InTurn
pub mod Demands
pub mod Thinned
pub mod Easier
pub mod Drops
pub mod Agreement
pub mod Calls
pub mod EqualLoads
