pub mod CodeLaws
pub mod PrintLaws
