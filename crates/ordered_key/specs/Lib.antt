pub mod Sums
pub mod Repeat
pub mod Ascending
pub mod Grouped
