pub mod Holding
pub mod Sound
pub mod Rows
pub mod Insns
pub mod Gates
pub mod Serving
pub mod Whole
pub mod Accepted
