pub mod Keeps
pub mod Decides
