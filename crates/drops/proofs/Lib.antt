-- Laws of one trial; of the trials one by one, and of the loop over them.
pub mod Ruling
pub mod Stepping
pub mod Running
