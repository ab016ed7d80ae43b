pub mod Answers
pub mod Plans
pub mod Limits
pub mod Stops
