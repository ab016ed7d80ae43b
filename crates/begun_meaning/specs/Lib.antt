pub mod Begun
pub mod Parts
pub mod Wrong
