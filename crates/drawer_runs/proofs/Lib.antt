pub mod Bundles
pub mod Runs
