pub mod Totals
pub mod Placed
pub mod Numbered
