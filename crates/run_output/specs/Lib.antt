pub mod Held
pub mod Jobs
pub mod JsonLines
pub mod Outputs
