pub mod ClassLists
pub mod Contract
pub mod Points
pub mod Mirror
pub mod Levels
pub mod Outcomes
pub mod Statements
pub mod Probes
