pub mod Puts
pub mod Gaps
