pub mod Step
pub mod Chars
