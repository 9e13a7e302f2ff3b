-- What `min_by_key` finds among the periods with capacity left.
pub mod Choosing
