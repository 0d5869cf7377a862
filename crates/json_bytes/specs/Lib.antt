pub mod Ascii
pub mod Reads
pub mod Eight
