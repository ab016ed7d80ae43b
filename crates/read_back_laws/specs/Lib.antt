pub mod Bare
pub mod ReadBack
