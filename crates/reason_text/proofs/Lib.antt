pub mod Lines
pub mod Keepers
pub mod Whole
