pub mod Flat
pub mod Laws
pub mod Opens
