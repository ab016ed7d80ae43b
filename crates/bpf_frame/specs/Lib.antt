pub mod Placing
pub mod Apart
pub mod Room
pub mod Registers
