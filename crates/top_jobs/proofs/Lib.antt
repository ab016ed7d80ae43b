pub mod Asked
pub mod Due
mod FailedNames
pub mod Listed
pub mod OneMeaning
mod OneRead
pub mod Passing
pub mod Reading
pub mod Scripts
mod TooLarge
