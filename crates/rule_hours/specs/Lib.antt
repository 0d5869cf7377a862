pub mod Hours
pub mod Asked
