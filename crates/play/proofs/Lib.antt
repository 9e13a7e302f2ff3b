-- The balances through every period, and the loop; what the proof of the call shares; what holds of a played day.
pub mod Running
pub mod Laws
pub mod Theorems
