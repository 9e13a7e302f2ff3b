-- What the trials of a big day ask and leave: a day that is ready for them, one trial, and all of them in turn.
pub mod Ready
pub mod Trial
pub mod Standing
