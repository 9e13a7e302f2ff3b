-- What the loops over the rows keep: the table filled, the plan read back.
pub mod Filling
pub mod Reading
