pub mod Sentences
pub mod Wording
pub mod Flat
