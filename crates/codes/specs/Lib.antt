-- What a C program sees of an answer.
pub mod Codes
