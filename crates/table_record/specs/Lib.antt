pub mod Record
pub mod Required
pub mod Pair
