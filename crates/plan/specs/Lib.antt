pub mod Names
pub mod Plans
