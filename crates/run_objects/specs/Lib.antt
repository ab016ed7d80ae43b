pub mod Closed
pub mod Moments
pub mod News
pub mod Objects
pub mod Took
pub mod Worlds
