pub mod Bodies
pub mod Code
pub mod Lowers
pub mod Needs
pub mod Sound
