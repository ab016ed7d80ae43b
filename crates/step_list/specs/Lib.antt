pub mod Deeds
pub mod Places
pub mod HeldReplies
pub mod HeldFacts
pub mod Lists
pub mod Emits
