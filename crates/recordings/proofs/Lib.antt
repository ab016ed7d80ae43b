pub mod Fields
pub mod ForOthers
pub mod Left
pub mod PartLaws
pub mod PayloadLaws
pub mod PlaceLaws
