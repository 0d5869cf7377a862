pub mod Typed
pub mod Meaning
pub mod FaultRecord
