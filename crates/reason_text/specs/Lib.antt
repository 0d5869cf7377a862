pub mod Sentence
pub mod Text
