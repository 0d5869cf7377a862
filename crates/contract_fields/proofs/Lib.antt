pub mod Opens
pub mod Facts
