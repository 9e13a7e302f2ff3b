-- What the row step asks and leaves, the laws of recursion (5) that it and its callers use, and the queue inside it.
pub mod Row
pub mod Laws
pub mod Queue
pub mod Moves
pub mod Head
pub mod Candidates
