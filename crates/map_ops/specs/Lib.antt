pub mod Values
pub mod Builtins
pub mod Parts
pub mod Holders
pub mod Asking
