pub mod None
pub mod Turns
pub mod Lists
pub mod Chains
pub mod Shown
