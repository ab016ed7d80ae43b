pub mod Bodies
pub mod Parts
pub mod Scope
pub mod Script
