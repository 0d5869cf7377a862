pub mod Opens
pub mod Cases
pub mod Compare
pub mod Laws
