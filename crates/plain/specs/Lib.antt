-- What the search finds, and that it is the plan of the day; when a path's answer agrees with it.
pub mod Search
pub mod Optimal
pub mod Agreement
