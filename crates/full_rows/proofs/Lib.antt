-- Laws of the row step; the queue of candidates.
pub mod Laws
pub mod Queueing
