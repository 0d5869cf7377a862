pub mod Lists
pub mod Placing
pub mod Header
pub mod Steps
