pub mod Opens
pub mod Bounds
pub mod FaultKinds
pub mod Plain
