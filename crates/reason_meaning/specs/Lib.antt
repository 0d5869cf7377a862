pub mod Explains
pub mod Cases
