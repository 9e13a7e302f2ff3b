-- The full path in the programs' areas.
pub mod Areas
