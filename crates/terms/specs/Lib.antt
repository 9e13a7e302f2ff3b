-- What a caller derives from the terms' values.
pub mod Low
