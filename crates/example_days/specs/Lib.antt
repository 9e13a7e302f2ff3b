-- What an accepted writing tells the program.
pub mod Accepted
