pub mod Bodies
pub mod Binds
pub mod Fitting
pub mod Gathers
pub mod Loops
pub mod Sizes
pub mod Statements
pub mod WalkedAs
