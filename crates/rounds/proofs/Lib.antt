-- The last allowed period, as a search from the back finds it.
pub mod Last
