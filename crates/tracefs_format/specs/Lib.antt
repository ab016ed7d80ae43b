pub mod Classes
pub mod Described
pub mod Tables
