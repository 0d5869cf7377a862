pub mod Answers
pub mod Left
