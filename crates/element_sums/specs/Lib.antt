pub mod Sums
pub mod Listed
