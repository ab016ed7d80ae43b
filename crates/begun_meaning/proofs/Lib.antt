pub mod Cuts
pub mod BlindReplies
pub mod Determined
pub mod NoFurther
pub mod WholeLists
