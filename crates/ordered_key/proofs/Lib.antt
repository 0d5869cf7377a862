pub mod Least
pub mod Neighbours
pub mod Rule
pub mod None
pub mod Texts
pub mod Ascending
pub mod Grouped
