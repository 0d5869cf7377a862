pub mod Opens
pub mod Facts
pub mod Cases
