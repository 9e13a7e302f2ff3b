-- The draws, number by number; the contract of the call.
pub mod Draws
pub mod Load
-- How the tables fill, and what an accepted call has left in them.
pub mod Periods
pub mod Theorems
