pub mod Painting
pub mod Sums
pub mod Moves
