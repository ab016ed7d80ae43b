pub mod Numbers
pub mod Reading
pub mod Steps
pub mod Helpers
pub mod Served
pub mod Writing
pub mod Running
