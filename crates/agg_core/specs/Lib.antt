pub mod Aggregates
pub mod Answers
pub mod Changes
pub mod Gathering
pub mod Lives
