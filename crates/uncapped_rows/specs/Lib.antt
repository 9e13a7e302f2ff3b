-- What the search for the rows assumes and leaves.
pub mod Bounds
pub mod Lots
pub mod Rows
