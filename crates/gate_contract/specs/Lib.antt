pub mod Board
pub mod Gate
