pub mod Orders
pub mod Lines
pub mod Refusals
pub mod Told
