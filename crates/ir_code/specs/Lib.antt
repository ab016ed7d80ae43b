pub mod Figures
pub mod Meaning
pub mod Serving
pub mod Typing
pub mod Stacks
pub mod Ways
