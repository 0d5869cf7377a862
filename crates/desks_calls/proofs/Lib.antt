pub mod Laws
pub mod Demands
pub mod Whole
pub mod Run
