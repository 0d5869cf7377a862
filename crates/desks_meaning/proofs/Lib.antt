pub mod Refusals
pub mod Written
pub mod Tries
