pub mod Opens
pub mod Parents
pub mod Laws
pub mod Rules
pub mod Cases
