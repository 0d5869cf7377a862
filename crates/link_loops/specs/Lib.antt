pub mod Loop
pub mod Links
pub mod Walk
