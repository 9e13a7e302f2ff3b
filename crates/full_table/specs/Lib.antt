-- What the loops over the table ask and leave; the plan read back from a filled table is the problem's.
pub mod Table
pub mod Right
