pub mod Parts
pub mod Maps
pub mod Refusals
