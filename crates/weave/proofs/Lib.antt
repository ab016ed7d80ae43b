pub mod Among
pub mod Rising
pub mod Places
pub mod Histories
pub mod Weaving
pub mod Orders
pub mod Ranking
pub mod Floors
pub mod Clocks
pub mod Bounds
pub mod Sorting
pub mod Growth
pub mod Example
pub mod Apart
pub mod Less
pub mod Only
pub mod Earlier
pub mod Ending
mod Listing
mod StepOrder
mod Picking
mod Stable
mod Sending
mod Spotted
pub mod Closing
pub mod EndedTraces
