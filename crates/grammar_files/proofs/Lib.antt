pub mod Strings
pub mod Values
pub mod Records
pub mod Files
pub mod Marks
