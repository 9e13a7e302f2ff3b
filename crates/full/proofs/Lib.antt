-- The front parts of lent memory that the loops are lent.
pub mod Fronts
