pub mod Answers
pub mod Path
