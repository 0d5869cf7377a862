pub mod Entries
pub mod Work
