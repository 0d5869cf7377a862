pub mod Opens
pub mod Laws
pub mod Bounds
pub mod Walk
pub mod Plain
pub mod FaultKinds
