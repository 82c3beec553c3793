pub mod CellBytes
pub mod Byte8
pub mod Sixbit
