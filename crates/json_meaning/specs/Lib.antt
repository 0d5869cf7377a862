pub mod Stands
pub mod Unicode
pub mod Strings
pub mod Decimals
