pub mod Kept
pub mod Cases
