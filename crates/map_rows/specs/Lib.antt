pub mod Fits
pub mod Merged
pub mod Merging
pub mod MergedRows
pub mod Items
pub mod Numbers
pub mod UnderKey
