-- The meaning of a day and its plan, in the report's order. A module uses those above it.
-- Tables: entries, sums, the first period that passes a test; the first value of least key.
pub mod Sums
pub mod Find
pub mod Least
-- The problem: a day, its plans, what they cost, which one is wanted (report, section 2); the greedy rule
-- (report, section 4).
pub mod Day
pub mod Plan
pub mod InTurn
-- What is refused, and when; the day file's layout.
pub mod Refusals
pub mod Tests
pub mod File
-- Answers in figures.
pub mod Figures
-- What a path needs, answers, and leaves in lent memory; the paths; runs and loads, which the equal path counts.
pub mod Outcome
pub mod Paths
pub mod Loads
-- Needs known as ranges: easier days, and the call that bounds their least cost.
pub mod Ranges
-- Big days: trials that forbid one period more, and the call that gives the best so far.
pub mod Drops
-- What the types of lent tables say; lent tables and memory at both moments of a call, as contracts speak of them.
pub mod Widths
pub mod Lent
-- The marked days: a plain search over all plans, the table, its theorem.
pub mod Search
pub mod Marked
