pub mod Opens
pub mod Laws
pub mod Pairs
pub mod Alike
pub mod Walk
pub mod Cases
