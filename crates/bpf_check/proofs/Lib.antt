pub mod Registers
pub mod Mono
pub mod Weights
pub mod Tables
pub mod Going
pub mod Counting
pub mod Inside
pub mod Answering
