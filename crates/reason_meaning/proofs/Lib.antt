pub mod Explained
pub mod Bundles
pub mod Cases
pub mod Numbers
