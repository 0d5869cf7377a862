pub mod Laws
pub mod Quoted
