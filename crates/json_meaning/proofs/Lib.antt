pub mod Places
pub mod Sequences
pub mod Encoding
pub mod Walk
pub mod Wrongs
pub mod Decimals
pub mod Numbers
