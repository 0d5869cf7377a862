pub mod Signed
pub mod Lists
pub mod Sums
