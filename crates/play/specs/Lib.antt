-- A day played through: one period, the sums over the day; the call's answer; what the loop over the periods carries.
pub mod Play
pub mod Answers
pub mod Run
