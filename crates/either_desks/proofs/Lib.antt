pub mod Desk
pub mod Desks
pub mod Undo
pub mod Cases
