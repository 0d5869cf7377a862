pub mod Laws
pub mod Replicated
