pub mod Plain
pub mod Value
