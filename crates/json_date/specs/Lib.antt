pub mod Date
pub mod Plain
