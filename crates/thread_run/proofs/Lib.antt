pub mod Counting
pub mod Making
pub mod Objects
pub mod Closing
pub mod Telling
