pub mod Listed
pub mod Code
