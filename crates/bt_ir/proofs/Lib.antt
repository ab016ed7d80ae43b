pub mod Asks
pub mod Ranks
pub mod Served
pub mod Stacks
pub mod Turning
pub mod Typed
