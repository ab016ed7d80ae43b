pub mod Formats
pub mod Loop
pub mod Valid
mod Adding
mod Attach
mod Body
mod Few
mod Grammar
mod Inversion
mod Keys
mod MadeFormat
mod Needs
mod OneTree
mod Sizes
mod Tokens
mod Typed
mod Types
mod Walked
