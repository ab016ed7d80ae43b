pub mod OwnMaps
pub mod Passing
pub mod Served
