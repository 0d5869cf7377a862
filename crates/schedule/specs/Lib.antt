pub mod Schedule
pub mod Lent
