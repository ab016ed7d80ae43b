pub mod Agendas
pub mod Contexts
pub mod Plans
pub mod Programs
pub mod Ready
pub mod Steps
