pub mod Jobs
pub mod Outcomes
pub mod Serve
pub mod Offered
pub mod Writing
pub mod Headline
pub mod Verified
pub mod Vetted
