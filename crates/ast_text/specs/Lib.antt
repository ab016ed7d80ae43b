pub mod Words
pub mod Exprs
pub mod Stmts
pub mod Scripts
