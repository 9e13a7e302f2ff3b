-- What the work of the equal path asks and gives.
pub mod Solved
