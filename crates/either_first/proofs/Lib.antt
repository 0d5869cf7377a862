pub mod Files
pub mod Bundles
