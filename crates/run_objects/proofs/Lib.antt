pub mod ClosedLemmas
pub mod EndLemmas
pub mod KindLemmas
pub mod MapReads
pub mod MoreLemmas
pub mod NewLemmas
pub mod ObjectLemmas
pub mod ReadLemmas
