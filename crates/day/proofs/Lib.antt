-- The marked days are right.
pub mod Marked
