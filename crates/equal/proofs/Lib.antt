-- What the answers cite.
pub mod Entry
