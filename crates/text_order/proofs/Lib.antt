pub mod Opens
pub mod Laws
pub mod Walk
pub mod Cases
