pub mod Finals
pub mod RunLemmas
pub mod SerialCount
pub mod Splitting
pub mod StepLemmas
pub mod TakeLemmas
pub mod TurnLemmas
