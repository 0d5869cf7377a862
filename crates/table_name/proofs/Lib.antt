pub mod Opens
pub mod Laws
pub mod Words
pub mod Eights
pub mod Spelling
pub mod Guess
pub mod Hints
pub mod FaultKinds
