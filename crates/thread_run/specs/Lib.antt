pub mod Closed
pub mod Made
pub mod Sets
