mod Lists
mod Bodies
mod Ticks
mod Few
mod Jobs
mod Apart
mod Exprs
mod Finding
mod Reader
mod Stmts
pub mod Typings
mod Words
