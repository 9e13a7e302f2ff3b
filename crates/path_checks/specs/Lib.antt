-- How many cells a path needs.
pub mod Needed
