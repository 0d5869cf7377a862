pub mod Same
pub mod Walk
