pub mod Accounts
pub mod Answers
pub mod Differences
pub mod Plans
