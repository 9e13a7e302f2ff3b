-- What the tests of the call on a big day leave; its work; what its answer says.
pub mod Passed
pub mod Work
pub mod Theorems
