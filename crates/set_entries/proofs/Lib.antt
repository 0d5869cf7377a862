pub mod Cases
pub mod Laws
pub mod Set
pub mod There
