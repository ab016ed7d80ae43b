pub mod Probes
pub mod Sizes
pub mod Making
