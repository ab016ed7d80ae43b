-- what crates above cite
pub mod AllClasses
pub mod Checked
pub mod Depth
pub mod Enough
pub mod Steps
pub mod Counts
pub mod Decide
pub mod Scripts
pub mod FewProbes
pub mod KindClasses
pub mod SameClass
pub mod Rows
-- what only this crate cites
mod Sound
mod Complete
mod Viable
mod CheckedFirst
mod CheckedStops
mod CheckedAlive
mod OneAnswer
mod Fronts
mod TreeMentions
mod MentionForms
mod MentionParts
mod MentionLaws
