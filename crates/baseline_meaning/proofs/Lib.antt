pub mod Bundles
pub mod Cases
