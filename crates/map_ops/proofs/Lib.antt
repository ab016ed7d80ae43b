pub mod PartLaws
pub mod Replied
pub mod Sweeping
pub mod AggSums
