pub mod Cases
pub mod Bundles
