pub mod Counts
pub mod Made
pub mod Ran
pub mod Runs
