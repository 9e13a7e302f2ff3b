-- Made-up tiny days.
pub mod MadeUp
