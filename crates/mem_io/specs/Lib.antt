pub mod Calls
pub mod MemShelf
pub mod MemSink
