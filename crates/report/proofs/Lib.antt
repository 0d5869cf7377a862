pub mod Opens
pub mod Puts
pub mod Lengths
pub mod Written
pub mod Counted
pub mod Cases
