pub mod Same
pub mod Summed
