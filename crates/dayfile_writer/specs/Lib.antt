-- The layout both ways, and the statements on reader and writer.
pub mod RoundTrip
pub mod Theorems
