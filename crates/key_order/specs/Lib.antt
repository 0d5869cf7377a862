pub mod Order
pub mod Compare
pub mod Sorting
