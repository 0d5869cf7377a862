pub mod Name
pub mod Guess
pub mod Hints
