pub mod Opens
pub mod Laws
pub mod Collect
pub mod Plain
pub mod Cases
