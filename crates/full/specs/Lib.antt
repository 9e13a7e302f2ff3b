-- What the full path's work asks and leaves.
pub mod Work
