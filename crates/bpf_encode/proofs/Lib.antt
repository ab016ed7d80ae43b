pub mod Bytes
pub mod Slots
pub mod Decoding
pub mod CodeLemmas
pub mod Refusing
pub mod Reaching
pub mod Loop
pub mod Lines
