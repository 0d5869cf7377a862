pub mod Whole
pub mod Values
