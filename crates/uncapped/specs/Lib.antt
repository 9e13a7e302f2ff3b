-- What the read-back and the work behind the call assume and leave; the call's own contract is in the crate day.
pub mod Slots
pub mod Solved
