-- What the loops behind the call assume and leave; the call's own contract is in the crate day.
pub mod Solved
