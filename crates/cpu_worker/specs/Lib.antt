pub mod Chains
pub mod Worlds
pub mod AtWork
pub mod Starts
pub mod Workers
