-- Lent tables, filled from the front.
pub mod Filled
-- Tables for the longest day.
pub mod Longest
