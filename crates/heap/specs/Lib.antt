pub mod Marks
pub mod Walks
pub mod Blocks
pub mod Moves
pub mod Threads
pub mod Regeneration
pub mod Room
pub mod Effects
