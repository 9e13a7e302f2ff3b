-- The full path's work on both days.
pub mod Both
-- What the call's answer says of every table of needs between the two.
pub mod Theorems
