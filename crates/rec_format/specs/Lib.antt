pub mod Answers
pub mod Faults
pub mod Heads
pub mod Parted
