pub mod Number
pub mod Capped
pub mod Alone
pub mod Short
