-- Laws that several functions' proofs cite.
pub mod Bounds
pub mod Walking
pub mod Faults
