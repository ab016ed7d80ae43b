pub mod BodyParts
pub mod Checking
pub mod IntervalLists
pub mod Refusing
pub mod ScriptReplays
pub mod Stamped
pub mod Texts
pub mod Walking
