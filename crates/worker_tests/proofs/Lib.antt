pub mod Pairs
pub mod Plans
pub mod Ready
pub mod Scripts
