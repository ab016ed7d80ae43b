pub mod Attaching
pub mod Marks
pub mod Pattern
pub mod Rows
pub mod Steps
pub mod There
pub mod Ticks
