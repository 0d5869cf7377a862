pub mod Painted
pub mod Next
