pub mod Cells
pub mod Seen
