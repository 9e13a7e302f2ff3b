-- The sum walked by the table of price steps is that of the cans; the prices shown of the definitions are right.
pub mod Steps
pub mod Examples
