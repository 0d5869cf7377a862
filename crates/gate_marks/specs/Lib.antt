pub mod Gate
pub mod Work
pub mod Marks
pub mod Again
pub mod Code
