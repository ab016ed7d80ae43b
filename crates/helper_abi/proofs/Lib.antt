pub mod Callings
pub mod CanDo
pub mod ReadingLemmas
