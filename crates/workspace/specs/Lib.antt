pub mod State
pub mod Reports
pub mod Shown
pub mod Rooms
pub mod Opened
pub mod Taken
pub mod Logs
pub mod Comparing
