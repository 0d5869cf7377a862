pub mod Laws
pub mod MarkKinds
pub mod Demands
