-- What the loop of `run` keeps.
pub mod Running
