pub mod Turning
pub mod Running
pub mod Ending
pub mod Rowing
pub mod Acting
