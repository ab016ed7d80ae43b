pub mod Stages
pub mod Fronts
pub mod Uniqueness
pub mod Decided
pub mod Written
