pub mod Join
pub mod Desks
pub mod Lent
pub mod Run
