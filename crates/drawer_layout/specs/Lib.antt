pub mod Places
pub mod Way
