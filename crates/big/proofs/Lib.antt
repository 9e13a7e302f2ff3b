-- Laws of the call.
pub mod Entry
