pub mod Part
pub mod Files
