pub mod Acts
pub mod Plans
pub mod Ran
pub mod Tasks
pub mod Turns
