pub mod Tables
pub mod Laws
pub mod Meaning
