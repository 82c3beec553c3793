mod CellBytes
mod Bytes8
mod Fields
