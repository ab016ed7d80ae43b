pub mod Appending
pub mod OfferLaws
