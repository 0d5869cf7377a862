pub mod Set
pub mod Work
