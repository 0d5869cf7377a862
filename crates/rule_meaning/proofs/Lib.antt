pub mod Answers
pub mod Values
pub mod Dates
pub mod Levels
pub mod Parents
pub mod Trees
pub mod Runs
pub mod Rules
