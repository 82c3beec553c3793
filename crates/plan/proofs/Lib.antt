mod Lines
mod Distinct
mod Counts
