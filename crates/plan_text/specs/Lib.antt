-- The text that `dayplan` prints for a day.
pub mod Text
