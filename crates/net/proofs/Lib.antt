-- What the loops keep: net needs, rates, ceilings.
pub mod Needs
pub mod Rates
pub mod Ceilings
