pub mod Lists
pub mod Keys
pub mod Model
pub mod Calls
pub mod Opening
pub mod Requests
pub mod Compared
pub mod Arena
