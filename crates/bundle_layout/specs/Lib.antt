pub mod Bundle
pub mod Change
pub mod Put
