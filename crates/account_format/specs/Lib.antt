pub mod Entries
pub mod Accounts
pub mod Forms
pub mod Wrong
pub mod Reading
pub mod Scopes
pub mod Answers
pub mod Faults
