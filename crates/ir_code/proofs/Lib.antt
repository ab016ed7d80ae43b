pub mod Shaped
pub mod WayLaws
