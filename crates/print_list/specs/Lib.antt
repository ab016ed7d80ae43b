pub mod Codes
pub mod Prints
