pub mod Text
pub mod Escape
pub mod Run
pub mod Eight
