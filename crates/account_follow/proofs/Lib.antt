pub mod FollowLemmas
pub mod FollowedLaws
pub mod Joining
pub mod Others
mod MainLaws
