pub mod Opens
pub mod Laws
pub mod Cases
