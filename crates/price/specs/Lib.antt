-- What the depot charges.
-- The definitions; what their roundings mean.
pub mod Price
pub mod Rounding
-- The sum walked by the table of price steps; prices shown of the definitions.
pub mod Steps
pub mod Examples
