pub mod Tokens
pub mod Words
pub mod Forms
pub mod Taking
pub mod Writing
