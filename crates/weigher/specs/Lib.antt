-- What the weigher answers, and what that says of a plan. A module uses those above it.
-- The verdict in the report's terms; the answers of both calls, and the numbers that they go by.
pub mod Verdict
pub mod Answers
-- That a verdict is right, and the only right one; which cells of a plan count; what a difference says.
pub mod Theorems
pub mod Cells
pub mod Difference
-- What the code carries from period to period; the walk that it runs, and its running sums.
pub mod Walk
pub mod Running
