pub mod List
pub mod Ahead
