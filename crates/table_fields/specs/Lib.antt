pub mod Fields
pub mod Enumerations
pub mod Flat
