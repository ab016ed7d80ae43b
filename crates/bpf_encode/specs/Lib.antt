pub mod Decoding
pub mod Faults
pub mod Slots
pub mod Listing
