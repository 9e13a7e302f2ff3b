-- A number's digits; the lines that programs print; std's digits are a number's, and a sum over a part of a table.
pub mod Digits
pub mod Text
pub mod Laws
