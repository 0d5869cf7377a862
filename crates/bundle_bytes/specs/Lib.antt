pub mod Words
pub mod Pieces
