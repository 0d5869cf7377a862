pub mod Quarter
pub mod Code
pub mod Run
