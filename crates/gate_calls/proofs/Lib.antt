pub mod Demand3
pub mod Refusals
pub mod Lent
pub mod MarkKinds
pub mod Reasons
