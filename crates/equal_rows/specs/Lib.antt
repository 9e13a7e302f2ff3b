-- The rows of the equal path: which of two plans goes first, what is kept of a row, and what a loop over its candidates keeps.
pub mod Order
pub mod Rows
pub mod Best
pub mod Consider
pub mod Constant
