pub mod Laws
pub mod Opens
pub mod Companion
pub mod Alike
