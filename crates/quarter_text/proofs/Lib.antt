pub mod Figures
pub mod Puts
