pub mod Opens
pub mod Laws
pub mod Eight
pub mod Bounds
pub mod FaultKinds
