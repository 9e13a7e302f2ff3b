-- What the field decoder gives, and how the tables fill.
pub mod Numbers
pub mod Tables
-- The statement on the reader.
pub mod Theorems
