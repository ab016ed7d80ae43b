pub mod Fields
pub mod Contexts
pub mod Parts
