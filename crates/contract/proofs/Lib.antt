pub mod Laws
pub mod MarkKinds
