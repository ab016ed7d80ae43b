pub mod Ends
pub mod Reads
pub mod Calls
pub mod WalkCalls
