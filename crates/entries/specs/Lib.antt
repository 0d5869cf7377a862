pub mod Entries
pub mod Flat
