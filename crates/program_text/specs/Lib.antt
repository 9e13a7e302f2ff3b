-- The text that a program prints for a day file.
pub mod Text
pub mod Laws
pub mod Run
