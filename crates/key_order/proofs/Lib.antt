pub mod Opens
pub mod Compared
pub mod Laws
pub mod Listed
pub mod Ways
pub mod Lists
pub mod Cases
