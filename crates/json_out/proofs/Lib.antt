pub mod Plain
mod Steps
