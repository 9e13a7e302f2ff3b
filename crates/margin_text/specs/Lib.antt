-- The text that `margins` prints for a day and a file of actual needs.
pub mod Margins
pub mod Laws
