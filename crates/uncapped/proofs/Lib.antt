-- Laws of the read-back and of the call, in the order in which they are used.
pub mod ReadBack
pub mod Entry
