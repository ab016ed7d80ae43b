pub mod Clocks
pub mod Replaying
