-- Laws of the loops, in the order in which they are used.
pub mod Candidates
pub mod Filling
