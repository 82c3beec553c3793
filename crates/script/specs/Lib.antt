pub mod Scripts
pub mod Written
pub mod Plans
