pub mod Here
pub mod Pairs
pub mod Cells
pub mod Records
pub mod Tables
pub mod Names
pub mod Unique
