pub mod Types
pub mod Rows
pub mod Run
