-- The kinds of record, by their bytes; the calls and their tests; the layout, what its laws say, and what is said of records that break it.
pub mod Kinds
-- The contracts of the calls.
pub mod Answers
-- Laws that their proofs cite: passed tests, the layout.
pub mod Passed
pub mod Layout
-- What is said of a record of kind 3, of kind 4 and of kind 5, that is not as it must be.
pub mod Charges
pub mod StoreLimits
pub mod Stamps
-- Statements on the lookup and on a file's size.
pub mod Theorems
