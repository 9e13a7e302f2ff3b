-- Two searches as one; what a caller learns where all tests pass.
pub mod Earlier
pub mod Passed
