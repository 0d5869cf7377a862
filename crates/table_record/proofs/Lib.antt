pub mod Opens
pub mod Bounds
pub mod Cases
pub mod FaultKinds
pub mod Laws
pub mod Required
pub mod Before
