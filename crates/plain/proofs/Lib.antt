-- What `min_by_key` keeps of the plans that hold.
pub mod Choosing
