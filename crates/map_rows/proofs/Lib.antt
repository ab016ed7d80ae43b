pub mod MergedFitting
pub mod KeyLists
pub mod MergedRowsLaws
pub mod KeySets
pub mod Entries
pub mod MergedLaws
pub mod MergingSteps
pub mod KeyOrder
