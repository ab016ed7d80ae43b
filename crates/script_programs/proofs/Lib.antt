mod Lowered
pub mod Made
pub mod Sizing
pub mod StillLowered
