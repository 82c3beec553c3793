pub mod Onward
pub mod Formed
pub mod Kept
pub mod Lined
pub mod WrittenTokens
pub mod WrittenForms
pub mod Back
