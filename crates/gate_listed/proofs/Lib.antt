pub mod Filled
pub mod Facts
