pub mod Adding
pub mod Members
pub mod Quiet
pub mod ExprAdds
pub mod StmtAdds
pub mod Scripts
pub mod Given
pub mod PutLaws
pub mod Alike
pub mod Merging
pub mod Spans
pub mod LastCrossing
pub mod Tables
pub mod Items
pub mod Own
pub mod Exact
pub mod MapEnds
pub mod SameEnds
pub mod TickReads
mod Leaving
mod ReadLemmas
mod OwnAdds
mod ProgramCalls
mod StepCalls
mod WalkCalls
