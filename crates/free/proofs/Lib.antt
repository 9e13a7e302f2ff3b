-- Laws of the loops and of the call.
pub mod Solving
pub mod Entry
