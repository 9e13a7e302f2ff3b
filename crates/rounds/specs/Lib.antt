-- What the search for the next period answers.
pub mod Turns
