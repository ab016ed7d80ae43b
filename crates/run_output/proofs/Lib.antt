pub mod ArcKnown
pub mod CodeLemmas
pub mod EntriesKnown
pub mod ItemsKnown
pub mod TypesSay
mod WholeLines
