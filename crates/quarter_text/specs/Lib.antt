pub mod Figure
pub mod Table
