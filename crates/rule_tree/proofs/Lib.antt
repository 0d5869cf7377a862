pub mod Children
pub mod Laws
pub mod Rules
pub mod Opens
pub mod Cases
