pub mod Draws
pub mod Made
pub mod Jobs
pub mod Tree
pub mod Texts
