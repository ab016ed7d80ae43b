pub mod Bodies
pub mod Intervals
pub mod Marks
pub mod Refused
pub mod Scripts
pub mod Serial
pub mod Written
