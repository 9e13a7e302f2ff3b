-- What a passed test tells a caller, and how the answers of several calls join to the first refusal of one list.
pub mod Passed
-- What a loop knows that looks for the first period in which a test holds.
pub mod Search
