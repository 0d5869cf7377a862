pub mod Reason
pub mod Speaks
pub mod Code
