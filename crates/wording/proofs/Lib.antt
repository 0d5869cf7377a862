pub mod Parts
pub mod Filling
