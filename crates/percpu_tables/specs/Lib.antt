pub mod Objects
pub mod Tables
