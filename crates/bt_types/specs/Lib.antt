pub mod Bodies
pub mod Done
pub mod Exits
pub mod Listed
pub mod Open
pub mod Script
pub mod Told
pub mod Under
